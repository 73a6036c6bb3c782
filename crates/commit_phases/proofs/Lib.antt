pub mod Completing
pub mod Earlier
pub mod Restoring
pub mod Serials
pub mod Settling
pub mod Storing
