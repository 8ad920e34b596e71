-- Laws that the proofs cite. Recording, Writing: records of edges and sides. Ordering: records sorted and numbered. Ends: the pair of each edge and side. Numbers: number_pairs as a whole.
-- Sums: `some` and `place` over lists made of parts. Adding, Targets: faces added to words. Known, Tables: what the words say then; note_faces as a whole. Walking, Rows: test 11.
pub mod Recording
pub mod Writing
pub mod Ordering
pub mod Ends
pub mod Numbers
pub mod Sums
pub mod Adding
pub mod Targets
pub mod Known
pub mod Tables
pub mod Walking
pub mod Rows
