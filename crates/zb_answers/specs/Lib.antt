pub mod Lists
pub mod Objects
pub mod Items
pub mod Refusals
pub mod Answers
