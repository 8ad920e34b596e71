-- Laws that the proofs cite. Frames: parts of the room that stay. Showing: the pool in a room of which only words behind it change. Noting: places of candidates in a list.
-- Along, Siding: candidates along a side. Pairing, Once: pairs, and each once. Listing: the constraints of a face, and of all.
pub mod Frames
pub mod Showing
pub mod Noting
pub mod Along
pub mod Pairing
pub mod Once
pub mod Siding
pub mod Listing
