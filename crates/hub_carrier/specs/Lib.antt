pub mod Cutting
pub mod EndLaws
pub mod Ends
pub mod Later
pub mod LaterLaws
pub mod Served
pub mod Telling
