pub mod Hosts
pub mod Givens
pub mod Fingerprints
pub mod Statuses
