pub mod Head
pub mod Number
pub mod Partial
