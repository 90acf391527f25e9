-- What serves the code and no public contract.
pub mod Entries
pub mod Kept
pub mod Noting
pub mod Fields
