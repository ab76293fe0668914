pub mod Groups
pub mod Written
pub mod Placed
pub mod Reported
pub mod Unique
