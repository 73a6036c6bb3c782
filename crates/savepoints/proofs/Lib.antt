pub mod Contents
pub mod Cuts
pub mod Marks
pub mod Undoing
