-- What the floors above cite: Accepted says what follows for rows that were not refused, Checks for what is asked about them, Ranges what a range of offsets holds,
-- Spans which offsets the rule leaves, Wired that those with a wiring are accepted ones.
mod Faults
pub mod Accepted
pub mod Checks
pub mod Ranges
pub mod Spans
pub mod Wired
