pub mod Looking
pub mod Restored
pub mod Sound
pub mod Writing
