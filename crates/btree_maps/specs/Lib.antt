pub mod Visits
pub mod Drawn
pub mod Settings
pub mod Removals
