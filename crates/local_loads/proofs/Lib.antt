pub mod Fronts
pub mod Reading
pub mod Waiting
pub mod Calls
