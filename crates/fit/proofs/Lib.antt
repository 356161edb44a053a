-- Ends: the code's sums and tests are the ends of the rule. Misfits, Leasts, Spans, Stretches: what is found, and what it says of wirings.
mod Ends
pub mod Misfits
pub mod Leasts
pub mod Spans
mod Stretches
