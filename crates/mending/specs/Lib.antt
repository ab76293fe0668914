pub mod Mend
pub mod Few
pub mod Slots
pub mod Restore
pub mod System
pub mod Scratch
