pub mod Fold
pub mod Shares
