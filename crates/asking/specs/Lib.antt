pub mod Envelopes
pub mod Figures
pub mod Places
