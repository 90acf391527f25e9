pub mod Sizes
pub mod Refusals
pub mod NodeSets
pub mod inside
pub mod Laws
