pub mod Works
pub mod Views
pub mod Loading
pub mod Named
pub mod Connections
pub mod ViewLaws
