-- Faces: the word of faces as a list. Sources: candidates at mesh vertices, and how many there can be.
-- Ends: one vertex, and the ends of a side. Turns: one open edge. Passes: the loops.
pub mod Faces
pub mod Sources
pub mod Ends
pub mod Turns
pub mod Passes
