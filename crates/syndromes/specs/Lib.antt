pub mod Syndromes
pub mod Apart
