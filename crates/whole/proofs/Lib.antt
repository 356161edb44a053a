-- What the floors above cite.
pub mod Arith
pub mod Order
pub mod Machine
pub mod Extremes
