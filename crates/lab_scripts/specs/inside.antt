-- What serves the code, and no public contract.
pub mod Flags
pub mod Kept
pub mod Steps
