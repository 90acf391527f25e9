-- Packets, frames, and what is due where they are sealed, opened, read and cut.
pub mod FrameReads
pub mod Frames
pub mod FrameStreams
pub mod Hmac
pub mod inside
pub mod KeyRings
pub mod Keys
pub mod Kinds
pub mod Layout
pub mod Opening
pub mod Packets
pub mod Pads
