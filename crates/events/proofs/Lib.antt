-- Agree is for the floors above: of the line numbers seen, only those below 64 are asked.
mod Noted
mod Steps
pub mod Agree
