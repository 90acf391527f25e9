pub mod frames
pub mod Laws
pub mod lines
pub mod Texts
