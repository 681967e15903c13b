mod Batches
pub mod CallerLemmas
mod Found
mod KeptFields
mod Openings
mod Order
mod Sums
mod Turns
