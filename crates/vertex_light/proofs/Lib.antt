pub mod Eight
pub mod Sums
