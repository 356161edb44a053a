-- THE definition is `events_of` of Events, over Lines. Steps says what a machine stands for and what the calls promise; Parts is what the parts of
-- the code promise each other.
pub mod Lines
pub mod Events
pub mod Steps
pub mod Parts
