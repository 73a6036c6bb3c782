pub mod Rows
pub mod Arguments
pub mod Tokens
pub mod Grammar
pub mod Fits
pub mod Laws
