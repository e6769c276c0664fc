pub mod ClockRows
pub mod LinkRows
pub mod Texts
pub mod Within
pub mod Bound
pub mod Table
pub mod Promise
pub mod Figures
