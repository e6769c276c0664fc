pub mod Flat
pub mod Promise
