pub mod Products
pub mod Mixing
pub mod Unique
pub mod Halving
