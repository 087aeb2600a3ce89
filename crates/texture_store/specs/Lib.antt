pub mod Answers
pub mod Changes
pub mod Commands
pub mod Drops
pub mod Kept
pub mod Stored
pub mod Textures
pub mod Writes
