pub mod Kept
pub mod Trace
