pub mod LawLemmas
pub mod RowLemmas
pub mod Exported
