mod Back
mod Found
mod Likes
