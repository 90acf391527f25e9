pub mod Events
pub mod NodeHeads
pub mod Keeping
pub mod Restoring
pub mod Telling
pub mod Texts
pub mod Laws
pub mod inside
