pub mod Walks
pub mod Putting
pub mod Heights
pub mod Counts
pub mod Pieces
pub mod Tables
pub mod Partless
