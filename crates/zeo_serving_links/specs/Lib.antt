pub mod Feeding
pub mod FeedingLaws
pub mod Links
pub mod Serving
