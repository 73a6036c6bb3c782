pub mod Refusals
pub mod Records
pub mod Laws
pub mod Alike
pub mod Printed
