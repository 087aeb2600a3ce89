pub mod Chunks
pub mod Headers
pub mod Rows
pub mod SoFar
pub mod Steps
