pub mod Read
pub mod Spelling
pub mod Fields
pub mod Twos
pub mod SignedFields
pub mod Format
pub mod Promise
