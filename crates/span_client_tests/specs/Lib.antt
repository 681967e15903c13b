pub mod Fixed
pub mod laws
