pub mod Maps
pub mod Merge
pub mod Answers
pub mod Walk
pub mod Kept
pub mod Laws
