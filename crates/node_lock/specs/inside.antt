-- What serves the code and no public contract.
pub mod Walks
pub mod InboxRule
