pub mod Comparing
pub mod Where
pub mod Windows
pub mod Numbers
pub mod Unique
