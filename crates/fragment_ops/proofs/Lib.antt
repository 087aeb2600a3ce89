pub mod Clamped
