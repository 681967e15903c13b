mod Around
mod Cuts
mod Noted
