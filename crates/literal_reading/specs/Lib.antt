pub mod Reading
pub mod Literals
pub mod Exact
