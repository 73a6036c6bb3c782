pub mod Answers
pub mod Calls
pub mod LengthLaws
pub mod Messages
