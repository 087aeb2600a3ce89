pub mod Bound
pub mod Keeping
pub mod Keys
pub mod Stored
