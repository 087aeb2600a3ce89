pub mod Bounds
pub mod Facing
pub mod LineSetup
pub mod Offset
pub mod PointSetup
pub mod Setup
pub mod Window
