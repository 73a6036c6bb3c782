pub mod Asked
pub mod Links
pub mod Over
pub mod Serves
pub mod Steps
