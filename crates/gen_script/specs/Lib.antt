pub mod Counting
pub mod Left
pub mod Lengths
pub mod Script
