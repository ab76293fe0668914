pub mod Made
pub mod Powers
pub mod Away
pub mod Lanes
pub mod Filled
pub mod Unique
