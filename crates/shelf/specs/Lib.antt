pub mod Shelf
pub mod Check
pub mod Records
