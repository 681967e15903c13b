pub mod Chains
pub mod Closing
pub mod Distinct
pub mod Drops
pub mod Once
pub mod StoreLaws
mod Added
mod Begins
mod Counts
mod Entries
mod Kept
mod LaneMaps
mod LaneStacks
mod Lending
mod Linked
mod Lost
mod Marks
mod Opened
mod Removed
mod SlotChanges
mod SlotCounts
mod SlotSteps
mod Slotting
mod States
mod Stored
mod Times
