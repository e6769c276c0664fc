-- Definitions that only contracts of inner functions and proofs use: no demand rests on them.
pub mod Tests
