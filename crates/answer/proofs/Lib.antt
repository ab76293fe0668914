pub mod Pairs
pub mod Reading
pub mod Outcome
pub mod Worked
pub mod Unique
