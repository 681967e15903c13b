pub mod Journalled
mod Legal
