pub mod Restoring
pub mod Sending
pub mod Firm
pub mod Lives
pub mod Ahead
pub mod AtOnce
pub mod Example
pub mod Exported
