pub mod Link
pub mod Promise
pub mod Figures
