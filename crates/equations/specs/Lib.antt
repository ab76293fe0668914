pub mod Whole
pub mod Chosen
