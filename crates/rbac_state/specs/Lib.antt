pub mod Says
pub mod Assignments
pub mod inside
pub mod Policies
pub mod Listings
pub mod Laws
