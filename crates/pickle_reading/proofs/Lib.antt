pub mod Stacks
pub mod Sets
pub mod Pairs
pub mod Memos
pub mod Lines
