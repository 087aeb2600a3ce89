pub mod Chains
pub mod Making
pub mod Placing
pub mod Replaced
pub mod Rows
