pub mod Limits
pub mod PermissionNumbers
pub mod Relations
