pub mod Refused
pub mod Chosen
pub mod Columns
pub mod Computed
pub mod Restored
pub mod Outcome
pub mod Unique
