pub mod Table
pub mod LinkRows
pub mod Written
pub mod Outcome
pub mod Served
