pub mod EventReading
pub mod Fields
pub mod Opening
