pub mod Acting
pub mod Admits
pub mod Alone
mod Asked
mod Calls
pub mod CallerLemmas
pub mod Fixed
pub mod Goes
pub mod Once
mod Readable
pub mod Ready
mod Registered
pub mod Seen
mod Sends
mod Served
pub mod Stores
mod Recording
