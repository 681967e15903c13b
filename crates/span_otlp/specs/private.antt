pub mod Own
pub mod Reading
pub mod Rooted
pub mod Sent
