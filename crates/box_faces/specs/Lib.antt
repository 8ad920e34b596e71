pub mod Faces
pub mod Segments
pub mod Sides
pub mod Lines
