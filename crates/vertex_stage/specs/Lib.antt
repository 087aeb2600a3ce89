pub mod Fog
pub mod Normal
pub mod Vertex
