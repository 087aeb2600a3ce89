pub mod Crossing
pub mod Planes
pub mod Polygon
pub mod Segment
