pub mod CallerLemmas
pub mod Agreeing
pub mod Ancestry
mod Finds
mod FromRoot
mod Itself
mod Lending
mod LookupLaws
mod Masks
pub mod Plain
pub mod Unrefused
mod View
