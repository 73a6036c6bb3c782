pub mod Digits
pub mod Dashes
pub mod Matched
pub mod Numbers
pub mod Walks
