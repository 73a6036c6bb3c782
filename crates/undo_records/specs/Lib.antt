pub mod Outcomes
pub mod Reading
pub mod Restoring
pub mod Undone
pub mod Written
