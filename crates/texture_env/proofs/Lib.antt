pub mod Rhos
pub mod Shaded
pub mod UnitTexels
