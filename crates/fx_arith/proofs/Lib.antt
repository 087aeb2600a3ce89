pub mod Floors
pub mod Halves
pub mod Products
pub mod Roots
