pub mod Onto
pub mod Zero
pub mod Unique
pub mod Parts
