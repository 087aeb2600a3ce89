pub mod Component
pub mod Image
pub mod Palette
pub mod Texel
