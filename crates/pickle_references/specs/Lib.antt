pub mod Naming
pub mod References
pub mod Shapes
pub mod Sights
pub mod Shown
pub mod Named
pub mod Cores
pub mod AlikeLaws
