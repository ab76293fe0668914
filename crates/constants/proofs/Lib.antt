pub mod Points
pub mod Constants
pub mod Unique
pub mod Applied
pub mod Made
