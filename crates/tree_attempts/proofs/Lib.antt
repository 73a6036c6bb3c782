pub mod Reading
pub mod Refused
pub mod Tracking
mod Recalled
pub mod Alike
pub mod Setting
pub mod Looking
mod Closing
