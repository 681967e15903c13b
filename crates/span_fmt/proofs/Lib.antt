mod Around
pub mod CallerLemmas
mod Bare
pub mod Between
mod Filled
mod Given
mod Interleaving
mod Noticed
mod Outermost
mod Scopes
mod Plain
mod Present
mod Told
mod TreeBetween
mod Differ
mod Runs
mod Unescaped
mod Unquoted
mod Closing
mod FormsTold
mod Handed
mod Noted
mod Put
mod Streamed
