-- Lines of bytes, and readers and writers that may fail.
pub mod Aheads
pub mod Blocks
pub mod Devices
pub mod Holding
pub mod LinePrograms
pub mod Lines
pub mod LinesAt
pub mod Nexts
pub mod Watching
