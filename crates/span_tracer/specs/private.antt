pub mod Callsite
pub mod Served
