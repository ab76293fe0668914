pub mod Fits
pub mod Horner
pub mod Remainder
pub mod Ring
pub mod Filled
pub mod Added
pub mod Unique
