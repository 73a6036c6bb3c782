pub mod Holding
