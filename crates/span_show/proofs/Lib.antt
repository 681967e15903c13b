mod Answered
mod New
mod Read
mod Streamed
