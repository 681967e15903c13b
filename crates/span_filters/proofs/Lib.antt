mod Around
mod Hooks
mod Steady
pub mod CallerLemmas
pub mod Views
