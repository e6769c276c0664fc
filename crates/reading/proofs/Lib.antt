pub mod Sections
pub mod Answered
