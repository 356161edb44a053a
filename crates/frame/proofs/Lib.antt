-- What the floors above cite: Scan looks through a list, Frames says what a good frame has, Puts what was stored, Back that what is written is read back.
pub mod Scan
pub mod Puts
pub mod Frames
pub mod Back
