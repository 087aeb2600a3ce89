pub mod Angle
pub mod Matrix
pub mod Number
pub mod Power
pub mod Vector
