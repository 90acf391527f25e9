pub mod Lives
pub mod Laws
pub mod Example
