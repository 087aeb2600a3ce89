pub mod Frames
pub mod Index
