pub mod Asking
pub mod Counting
pub mod Good
pub mod Preparing
