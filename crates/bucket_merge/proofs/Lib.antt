mod Joined
mod Walks
mod Values
mod Theorems
mod Sets
