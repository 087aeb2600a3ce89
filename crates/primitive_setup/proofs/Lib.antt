pub mod Boxes
pub mod Clamps
pub mod CutBoxes
pub mod Edges
pub mod Made
pub mod Valid
pub mod Words
