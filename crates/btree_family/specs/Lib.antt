pub mod Classes
pub mod Keys
pub mod KeyLaws
pub mod OrderLaws
pub mod Families
pub mod Rising
pub mod Buckets
