pub mod Skips
pub mod Finds
