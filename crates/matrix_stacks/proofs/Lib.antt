pub mod Entries
pub mod EyeNormals
pub mod Widths
