pub mod Naming
pub mod Answered
pub mod Told
pub mod Votable
pub mod Waits
