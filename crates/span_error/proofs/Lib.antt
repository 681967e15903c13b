mod Around
mod Keeping
mod Taking
