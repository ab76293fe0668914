pub mod Weights
pub mod Shifts
pub mod Unique
