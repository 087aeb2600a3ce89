pub mod Left
pub mod Vertices
