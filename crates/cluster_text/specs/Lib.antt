pub mod Shapes
pub mod Results
pub mod Setups
pub mod Statuses
pub mod Files
pub mod Linked
