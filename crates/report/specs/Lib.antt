pub mod Listing
pub mod Table
pub mod Promise
pub mod Figures
pub mod Inner
