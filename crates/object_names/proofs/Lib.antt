pub mod Tables
pub mod Given
pub mod Objects
pub mod Totals
pub mod Fresh
pub mod Behind
pub mod Seen
