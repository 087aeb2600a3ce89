pub mod Raised
pub mod Refusals
pub mod Stated
pub mod Stepped
pub mod Fragments
