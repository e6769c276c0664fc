pub mod Offsets
pub mod Loops
pub mod Sweeps
pub mod Admitted
