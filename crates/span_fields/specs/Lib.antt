pub mod Directive
pub mod Filter
pub mod Text
pub mod laws
pub mod private
