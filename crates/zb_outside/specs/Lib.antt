pub mod MemoryState
pub mod Stamps
pub mod StampsLaws
pub mod Written
pub mod WrittenLaws
