pub mod Closing
pub mod Quoting
pub mod Table
pub mod Promise
pub mod OpenLinks
pub mod Inner
