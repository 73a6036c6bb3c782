pub mod Mixes
pub mod Sides
