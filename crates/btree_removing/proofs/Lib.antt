pub mod Cutting
pub mod Buckets
pub mod Raising
pub mod Siding
pub mod Lasting
pub mod Finding
pub mod Answering
