pub mod Shared
pub mod Spelling
pub mod Numbers
pub mod Writing
pub mod Putting
pub mod Laws
pub mod SharedLaws
