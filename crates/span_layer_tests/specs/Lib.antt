pub mod Filters
pub mod laws
