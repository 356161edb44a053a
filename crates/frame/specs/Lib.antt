-- Hex and Frame say what a good line is, Written how a frame is written; Puts is for what is written into lent memory.
pub mod Hex
pub mod Frame
pub mod Written
pub mod Puts
