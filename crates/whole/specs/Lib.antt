pub mod Rounding
pub mod Order
pub mod Euclid
pub mod Laws
