pub mod ByValue
pub mod Dropping
pub mod Holding
pub mod Keeping
pub mod Reading
pub mod Storing
pub mod Writing
