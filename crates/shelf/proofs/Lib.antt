pub mod Checked
pub mod Recorded
pub mod Answered
pub mod Longest
pub mod Stored
pub mod Unique
