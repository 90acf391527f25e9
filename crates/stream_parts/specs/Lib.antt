pub mod LongRuns
pub mod Laws
pub mod Example
