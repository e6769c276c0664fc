pub mod Ops
pub mod Numbers
