pub mod AnswerLemmas
pub mod OwnLemmas
pub mod PipeLemmas
pub mod RunLemmas
pub mod OpenLemmas
