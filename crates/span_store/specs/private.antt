pub mod Bloom
pub mod Index
pub mod Keyed
pub mod Marks
pub mod Slot
pub mod SlotValue
pub mod State
pub mod StoreRepr
