pub mod Finding
pub mod Alone
pub mod Adding
pub mod Keeping
pub mod Rising
pub mod Slots
pub mod Collecting
