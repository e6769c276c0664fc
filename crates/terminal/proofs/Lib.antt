pub mod Counted
mod Names
