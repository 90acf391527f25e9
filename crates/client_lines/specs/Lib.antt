pub mod Results
pub mod Members
pub mod Json
pub mod Operations
pub mod Requests
pub mod Faults
pub mod AnswerTexts
pub mod inside
