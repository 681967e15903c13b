pub mod Fault
pub mod Serve
pub mod Show
