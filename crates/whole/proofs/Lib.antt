pub mod Bridge
pub mod Order
pub mod Rounding
pub mod Euclid
pub mod Machine
pub mod Signs
pub mod Laws
