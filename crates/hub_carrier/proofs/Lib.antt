pub mod Cuts
pub mod Later
pub mod Lengths
pub mod Numbers
pub mod Serves
pub mod Telling
