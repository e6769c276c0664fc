pub mod Links
pub mod Held
