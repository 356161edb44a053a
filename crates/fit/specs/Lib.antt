pub mod Misfit
pub mod Least
pub mod Offsets
pub mod Stretch
