pub mod Filtered
pub mod Pair
pub mod Path
pub mod Reload
pub mod Stack
