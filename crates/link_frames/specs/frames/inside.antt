-- What serves the code and no public contract.
pub mod Schedules
pub mod MidStates
