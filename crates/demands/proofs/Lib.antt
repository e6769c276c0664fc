pub mod Slices
pub mod Demands
