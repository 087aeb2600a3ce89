pub mod Answer
pub mod Fault
pub mod Frames
pub mod Log
