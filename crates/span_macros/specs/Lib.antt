pub mod Asked
pub mod Behind
pub mod Example
pub mod Field
pub mod Made
pub mod Metadata
pub mod Span
pub mod private
