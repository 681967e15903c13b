pub mod Histogram
pub mod Layout
pub mod Life
pub mod Row
pub mod Text
pub mod Timing
pub mod Unit
pub mod private
