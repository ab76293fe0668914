pub mod Field
pub mod Bytes
pub mod Row
pub mod Solve
pub mod Euclid
