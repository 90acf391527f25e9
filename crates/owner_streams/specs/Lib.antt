pub mod Places
pub mod Steps
pub mod Values
pub mod LastVotes
pub mod Laws
pub mod inside
