pub mod Survivors
pub mod Refusals
pub mod Listing
pub mod Accepted
pub mod Filling
pub mod Exactly
pub mod Unique
