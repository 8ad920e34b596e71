-- Laws that the proofs cite. Selecting: the definition of the selection. Kept: what a step leaves as it stands. Fours: the flat list of triangles.
-- Good: what a list that passed 10 is known to be. Passing: the loop of 10. Turns: turning outward.
pub mod Selecting
pub mod Kept
pub mod Fours
pub mod Good
pub mod Passing
pub mod Turns
