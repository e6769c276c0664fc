pub mod Read
pub mod Spelling
pub mod Field
pub mod Promise
pub mod Format
pub mod Run
