pub mod Box
pub mod Leaf
pub mod List
pub mod Option
pub mod Path
pub mod Reload
