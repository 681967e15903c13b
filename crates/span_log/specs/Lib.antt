pub mod Event
pub mod Fields
pub mod Forward
pub mod Layer
pub mod Level
pub mod Record
