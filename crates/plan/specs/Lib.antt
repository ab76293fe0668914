pub mod Plan
pub mod Cost
pub mod Counts
