pub mod Closes
pub mod Data
pub mod LaneStack
pub mod Lends
pub mod SeededState
pub mod Step
pub mod Store
pub mod private
