pub mod Lengths
pub mod Listing
pub mod Rows
pub mod Sent
