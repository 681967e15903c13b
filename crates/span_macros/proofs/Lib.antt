mod Behind
pub mod CallerLemmas
mod Opened
mod Settled
mod Steps
