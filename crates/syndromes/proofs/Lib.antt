pub mod Upwards
pub mod Halves
pub mod Judged
pub mod Filling
pub mod Unique
