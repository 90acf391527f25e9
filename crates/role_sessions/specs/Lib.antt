pub mod Sessions
pub mod Decisions
pub mod inside
pub mod Refusals
pub mod Kept
pub mod Listed
pub mod Laws
