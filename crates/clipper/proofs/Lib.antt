pub mod Betweens
pub mod Fronts
pub mod Polygons
pub mod Rounds
pub mod Segments
