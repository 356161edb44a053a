-- What the floors above cite: Theorem, Serves, Rule, Mirror, Halving, Build, Drawing and Parts. The others are the way there.
mod Walk
mod Pigeon
mod Diagonal
pub mod Build
pub mod Rule
pub mod Serves
pub mod Drawing
pub mod Theorem
pub mod Mirror
pub mod Halving
pub mod Parts
