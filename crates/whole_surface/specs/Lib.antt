pub mod Asked
pub mod Items
pub mod Paints
pub mod Parts
pub mod Stages
pub mod Subjects
pub mod UnitImages
