pub mod Starred
pub mod CandidateBlocks
pub mod CapBlocks
pub mod BoundaryBlocks
