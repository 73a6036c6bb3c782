pub mod Cached
pub mod CachedLaws
pub mod EntryLaws
