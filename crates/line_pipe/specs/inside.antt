-- What serves the code and no public contract.
pub mod Steps
