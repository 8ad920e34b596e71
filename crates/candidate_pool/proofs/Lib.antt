-- Laws that the proofs cite. Searching, KeyWords: the search by key. Rule: the key's joining rule is lawful. Listing: lists over the faces.
-- Growing, Inserting, Tidying: insertions, as operations on a pool. Numbers, Masking: bits. Reading, Putting, Clearing, Placing, Facing, Adding: the same in the work room.
-- Frames, Edges: what rooms that agree have in common, the pool and the open edges.
pub mod Searching
pub mod KeyWords
pub mod Rule
pub mod Listing
pub mod Growing
pub mod Inserting
pub mod Tidying
pub mod Numbers
pub mod Masking
pub mod Reading
pub mod Putting
pub mod Clearing
pub mod Placing
pub mod Facing
pub mod Adding
pub mod Frames
pub mod Edges
