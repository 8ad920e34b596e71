pub mod Triangles
pub mod Numbers
pub mod Points
pub mod Boxes
pub mod Meshes
pub mod FirstUse
pub mod Axes
