pub mod Closings
pub mod Dropping
pub mod Knowing
pub mod Lengths
pub mod Spelling
pub mod Takings
pub mod Wholes
