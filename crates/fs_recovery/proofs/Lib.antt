pub mod Counting
pub mod Faults
pub mod Starts
pub mod Steps
pub mod Times
pub mod Tallies
