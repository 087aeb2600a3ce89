pub mod Eights
pub mod Stacked
