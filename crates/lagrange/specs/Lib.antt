pub mod Weights
pub mod Lanes
pub mod Powers
