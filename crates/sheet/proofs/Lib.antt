pub mod Refusing
pub mod Spelling
pub mod Promise
