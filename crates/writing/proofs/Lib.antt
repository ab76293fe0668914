pub mod Surviving
pub mod Putting
pub mod Inverse
pub mod Unique
