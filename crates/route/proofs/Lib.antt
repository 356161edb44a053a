-- What the floors above cite: Places says where the columns of a route stand, Legal that no fault is legality, Faults what the search finds, Reading that
-- no more of a table is read than its wires' places, Answers what the calls promise, with the laws that join them, and Texts what writing frames 21 leaves
-- to write. Wires and Quick are the way there.
pub mod Places
mod Wires
pub mod Faults
pub mod Legal
mod Quick
pub mod Reading
pub mod Answers
pub mod Texts
