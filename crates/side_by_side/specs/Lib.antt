pub mod Orders
pub mod Runs
pub mod RunLaws
pub mod Plays
