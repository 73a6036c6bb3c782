pub mod Heads
pub mod Filling
pub mod Cuts
pub mod OneWay
