mod Counts
mod Buckets
pub mod Whole
