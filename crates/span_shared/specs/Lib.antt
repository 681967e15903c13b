pub mod Journal
pub mod Logged
pub mod Worker
