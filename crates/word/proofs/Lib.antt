pub mod Spans
pub mod BitCounts
pub mod Nodes
