pub mod Counts
pub mod Lefts
pub mod Texts
