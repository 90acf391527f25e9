pub mod Shares
pub mod Standings
pub mod Written
