pub mod Changes
pub mod Codes
pub mod Remembered
