pub mod Points
pub mod Mending
pub mod Folding
pub mod Lagrange
