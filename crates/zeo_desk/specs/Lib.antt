pub mod Answering
pub mod Desks
