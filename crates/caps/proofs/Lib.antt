-- Laws that the proofs cite. Demands: demand 3 of the definition's mesh. Numbering: candidates name vertices of the mesh. Listing: tests 10 and 11. Meshing: the closed mesh.
-- Fitting: what one step gives to the next.
-- Ordering: the order of tests and steps. Modes: a mode from its number.
pub mod Demands
pub mod Numbering
pub mod Listing
pub mod Meshing
pub mod Fitting
pub mod Ordering
pub mod Modes
pub mod UnderBoth
