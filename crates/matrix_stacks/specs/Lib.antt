pub mod Eye
pub mod NormalMatrix
pub mod Product
pub mod Projection
pub mod Stack
pub mod Stacks
pub mod Transform
