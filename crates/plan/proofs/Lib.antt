pub mod Foldable
pub mod Counted
pub mod Costs
pub mod Bounds
pub mod Spans
pub mod Refusals
pub mod Capped
pub mod Unique
