pub mod Guard
pub mod Lines
pub mod Name
pub mod Old
pub mod Place
pub mod Queue
pub mod Rolling
pub mod Worker
