pub mod Marks
pub mod Sheets
pub mod LinkStates
pub mod Closes
pub mod Quotes
pub mod Finds
pub mod Table
pub mod Promise
