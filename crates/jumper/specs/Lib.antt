pub mod Limits
pub mod Refusals
pub mod Rows
pub mod Asked
pub mod Range
pub mod Span
