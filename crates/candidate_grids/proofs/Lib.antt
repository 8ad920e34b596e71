-- Laws that the proofs cite. Frames: segments in rooms that agree. Segmenting, Gathering, Searched: segments made, gathered and gone through. Bounded: points in range.
-- Entries, Edged, Facing, Gridding: a point, the open edges, a face and the six faces.
pub mod Frames
pub mod Segmenting
pub mod Gathering
pub mod Searched
pub mod Bounded
pub mod Entries
pub mod Edged
pub mod Facing
pub mod Gridding
