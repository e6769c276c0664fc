pub mod Limits
pub mod Stream
pub mod Envelope
pub mod Word
pub mod Inner
pub mod Made
pub mod Theory
