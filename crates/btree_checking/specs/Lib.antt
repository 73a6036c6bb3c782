pub mod Rules
pub mod Walks
pub mod Steps
pub mod Verdicts
pub mod Laws
pub mod Names
pub mod Fed
