pub mod Arrays
pub mod ComponentFormat
pub mod Draws
pub mod Fetch
pub mod Pointer
pub mod Regions
pub mod Storage
