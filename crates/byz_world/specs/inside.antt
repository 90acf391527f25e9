-- What serves the code and no public contract.
pub mod Blocks
pub mod Fields
pub mod Kept
