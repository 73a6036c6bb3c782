pub mod Alls
pub mod Copies
pub mod Distinct
pub mod Firsts
pub mod Sets
