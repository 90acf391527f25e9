-- What serves the code and no public contract.
pub mod Kept
pub mod Answers
