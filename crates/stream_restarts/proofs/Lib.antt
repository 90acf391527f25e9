pub mod Cutting
pub mod Firm
pub mod Projecting
pub mod AtOnce
pub mod Example
