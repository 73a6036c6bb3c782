pub mod Classes
pub mod States
pub mod Answers
pub mod Resolution
pub mod References
pub mod Stock
pub mod Depths
