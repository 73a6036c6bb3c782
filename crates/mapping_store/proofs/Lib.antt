pub mod Counts
pub mod Greatest
pub mod Turns
pub mod Votes
