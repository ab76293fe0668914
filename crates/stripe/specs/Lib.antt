pub mod Shape
pub mod Refusal
pub mod Stripe
pub mod Column
