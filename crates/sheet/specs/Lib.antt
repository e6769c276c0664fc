pub mod Sheet
pub mod SheetRead
pub mod Reader
pub mod Format
pub mod Locating
pub mod Promise
