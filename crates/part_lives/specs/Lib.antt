pub mod Parts
pub mod Holding
pub mod Lives
pub mod States
pub mod Laws
