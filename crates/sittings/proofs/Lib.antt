pub mod Grouped
pub mod Steps
pub mod One
pub mod Rowed
pub mod Pointed
pub mod Same
pub mod Apart
pub mod Many
