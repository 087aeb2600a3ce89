pub mod FillRule
pub mod Runs
pub mod Steps
