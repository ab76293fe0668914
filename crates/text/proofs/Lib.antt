pub mod Pieces
pub mod Lines
pub mod Printed
pub mod Unique
