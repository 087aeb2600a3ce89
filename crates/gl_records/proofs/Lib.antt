pub mod Captures
pub mod Completes
pub mod Drawings
pub mod Lines
pub mod Logarithms
pub mod Ranges
