pub mod Levels
pub mod Mipmaps
pub mod SubImage
pub mod Texels
