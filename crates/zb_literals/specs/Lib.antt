pub mod Texts
pub mod Values
pub mod Graphs
pub mod GraphLaws
pub mod Printing
pub mod Records
pub mod Plain
