-- What the floors above may cite: Levels (the two equations, and induction along the levels), Bests (the halving's laws) and Answers (the promise, and the
-- numbers of an answer). The others serve the functions of this crate: Strides the entries that are read where they stand, Ends and Choices a trial and
-- what is chosen by it, Climbs the halving, Plans the call.
pub mod Levels
pub mod Bests
mod Strides
mod Ends
mod Choices
mod Climbs
mod Plans
pub mod Answers
