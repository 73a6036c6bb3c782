pub mod Loose
pub mod Reading
