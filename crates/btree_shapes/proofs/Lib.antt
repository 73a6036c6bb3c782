pub mod Entries
pub mod Goings
pub mod Halving
pub mod Meeting
