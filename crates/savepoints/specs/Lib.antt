pub mod Log
pub mod Saved
