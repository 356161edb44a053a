-- Table says where a route's columns stand, Draw what is drawn, Moves which frames 21 say it and Check which fault is found; Asked is the code's.
pub mod Table
pub mod Draw
pub mod Moves
pub mod Check
pub mod Asked
