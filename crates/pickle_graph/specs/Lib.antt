pub mod Graph
pub mod Class
pub mod Parts
pub mod Walks
pub mod Same
pub mod WalkLaws
