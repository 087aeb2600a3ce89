pub mod Drawings
pub mod Rows
pub mod Whole
