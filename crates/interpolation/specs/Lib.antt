pub mod Coordinates
pub mod Depths
pub mod Factors
pub mod Frames
pub mod Mean
pub mod Rows
pub mod Shares
pub mod TileValues
