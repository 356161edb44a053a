-- THE definition is `answers` of Machine, over the events of a sheet (crate events) and Planned; Owes says what a state stands for and what
-- the calls promise. Steps and Parts are what the parts of the code promise each other.
pub mod Planned
pub mod Machine
pub mod Steps
pub mod Owes
pub mod Parts
