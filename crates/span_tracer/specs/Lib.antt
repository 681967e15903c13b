pub mod Receiver
pub mod Span
pub mod Tracer
pub mod private
