pub mod Tiled
