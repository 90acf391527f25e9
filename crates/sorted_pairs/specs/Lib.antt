pub mod Lists
pub mod Pairs
pub mod Blocks
pub mod KeyRanges
pub mod inside
