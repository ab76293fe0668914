pub mod Repair
pub mod Windows
