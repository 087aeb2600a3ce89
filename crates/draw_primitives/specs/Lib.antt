pub mod Draw
pub mod Fan
pub mod Known
pub mod Memory
