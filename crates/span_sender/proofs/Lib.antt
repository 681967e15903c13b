pub mod Doubled
pub mod Fields
pub mod Listed
pub mod Numbers
pub mod Replies
pub mod Runs
pub mod Sending
pub mod Worked
