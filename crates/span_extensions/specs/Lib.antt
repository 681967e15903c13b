pub mod Extensions
pub mod Lends
pub mod Shown
pub mod laws
