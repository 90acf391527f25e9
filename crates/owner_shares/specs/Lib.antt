pub mod Shares
pub mod Answers
pub mod Laws
