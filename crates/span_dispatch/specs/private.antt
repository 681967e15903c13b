pub mod Fixed
pub mod Interest
pub mod Registration
pub mod Step
