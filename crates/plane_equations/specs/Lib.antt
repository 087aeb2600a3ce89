pub mod FixedPlanes
pub mod Planes
pub mod Within
