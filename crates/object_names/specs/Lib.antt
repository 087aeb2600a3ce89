pub mod Giving
pub mod Names
pub mod Seen
