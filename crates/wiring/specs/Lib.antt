-- THE DEFINITIONS. Wiring, Fit and Tracks are what the demands are about; Table says what a route's columns mean, Drawing which columns we draw, and Part
-- what is left of a jumper without some of its pairs, and a jumper with a pair more.
pub mod Wiring
pub mod Fit
pub mod Tracks
pub mod Table
pub mod Drawing
pub mod Part
