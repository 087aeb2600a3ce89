pub mod Images
pub mod Palettes
pub mod Ranges
