pub mod Positions
pub mod Lost
