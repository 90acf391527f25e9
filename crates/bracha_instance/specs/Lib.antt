pub mod Prefixes
pub mod Broadcast
pub mod States
pub mod Taking
pub mod NewTakes
pub mod Laws
pub mod Supported
pub mod inside
