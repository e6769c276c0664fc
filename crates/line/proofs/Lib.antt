pub mod Puts
pub mod Digits
pub mod Figures
pub mod Signs
pub mod Promise
