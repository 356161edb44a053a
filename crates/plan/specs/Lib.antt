pub mod Wish
pub mod Plan
