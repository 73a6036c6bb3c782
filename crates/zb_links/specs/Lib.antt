pub mod Told
pub mod MemoryState
