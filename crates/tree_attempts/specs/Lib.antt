pub mod Known
pub mod Puts
pub mod Ahead
pub mod Calls
pub mod CallLaws
pub mod Laws
