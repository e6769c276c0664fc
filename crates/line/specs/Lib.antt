pub mod Letters
pub mod Text
pub mod Writing
pub mod Promise
