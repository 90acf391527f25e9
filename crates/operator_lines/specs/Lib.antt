pub mod Members
pub mod Rows
pub mod Decisions
pub mod Requests
pub mod Standings
pub mod Faults
pub mod AnswerTexts
pub mod Laws
