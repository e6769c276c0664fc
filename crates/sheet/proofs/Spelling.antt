-- Bytes and values: what is read is spelled so, and what is spelled is read.
pub mod Rows
pub mod Words
pub mod Clocks
pub mod Links
pub mod Worked
pub mod Sheets
pub mod Places
