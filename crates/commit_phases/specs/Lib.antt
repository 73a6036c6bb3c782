pub mod Decision
pub mod Earlier
pub mod Kept
pub mod Pending
pub mod ReadyLaws
pub mod Resolving
pub mod TakingLaws
pub mod Voted
