pub mod Plan
pub mod Scopes
