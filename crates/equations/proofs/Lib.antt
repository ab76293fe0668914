pub mod Lost
pub mod Columns
pub mod Mended
pub mod Folded
pub mod Chosen
pub mod Codes
