pub mod Answers
pub mod Counts
pub mod Endings
pub mod Heard
pub mod Holds
pub mod Sent
pub mod Served
pub mod Told
