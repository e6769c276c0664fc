-- Definitions that only contracts and proofs use: no demand rests on them.
pub mod Causes
