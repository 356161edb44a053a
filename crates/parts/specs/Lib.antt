-- Stays says what a part is, Still and Routed what the two calls promise; Grows is what the laws of proofs/Laws.antt say of an added pair.
pub mod Stays
pub mod Still
pub mod Routed
pub mod Grows
