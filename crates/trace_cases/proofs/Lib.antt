pub mod Frames
pub mod Numbers
pub mod Statuses
pub mod Words
