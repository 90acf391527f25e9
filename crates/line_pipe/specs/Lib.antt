pub mod Statuses
pub mod Answers
pub mod Laws
pub mod Pipes
pub mod Runs
pub mod inside
