-- Halving is 01's rule and Best the promise. Strides and Work say what the helpers ask and promise, and serve this crate alone.
pub mod Halving
pub mod Best
pub mod Strides
pub mod Work
