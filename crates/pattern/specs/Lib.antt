pub mod Step
pub mod Pattern
pub mod Beginning
pub mod Answer
pub mod Table
pub mod Walk
pub mod Inner
