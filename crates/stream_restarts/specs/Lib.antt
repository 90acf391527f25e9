pub mod LongLives
pub mod Laws
pub mod Example
