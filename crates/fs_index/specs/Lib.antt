pub mod Found
pub mod Places
pub mod HeldPlaces
pub mod Slots
pub mod Listed
