pub mod Statuses
pub mod Sockets
