pub mod Fault
pub mod Named
