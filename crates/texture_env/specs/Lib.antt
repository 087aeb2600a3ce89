pub mod Combining
pub mod Coordinates
pub mod Lines
pub mod Rows
pub mod Shaders
pub mod TextureUnits
