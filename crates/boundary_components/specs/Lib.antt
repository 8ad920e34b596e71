pub mod Boundary
pub mod Steps
