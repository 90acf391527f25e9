-- What serves the code and no public contract.
pub mod FirstVotes
pub mod Instances
pub mod Kept
pub mod Next
pub mod Tallies
