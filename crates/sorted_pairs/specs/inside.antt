pub mod Searches
