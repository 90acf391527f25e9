pub mod Keeping
pub mod Refusals
pub mod Sights
pub mod Statuses
