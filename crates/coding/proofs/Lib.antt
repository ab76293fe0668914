pub mod Encoded
pub mod Piggyback
pub mod Unique
pub mod ByPoints
