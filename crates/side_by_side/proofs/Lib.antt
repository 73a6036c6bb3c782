pub mod Places
pub mod Going
pub mod Ends
pub mod Reading
