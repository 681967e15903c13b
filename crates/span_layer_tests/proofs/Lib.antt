mod Handles
mod Reserved
