pub mod Compare
pub mod Windows
pub mod Check
