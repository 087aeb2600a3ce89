pub mod Asked
pub mod Bytes
pub mod Prepared
pub mod Written
