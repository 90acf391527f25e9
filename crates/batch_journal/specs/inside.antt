pub mod Fading
pub mod Disks
pub mod Keeping
pub mod Placing
