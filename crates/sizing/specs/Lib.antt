pub mod Rooms
pub mod Table
pub mod WorkOut
pub mod Promise
pub mod Figures
pub mod Inner
