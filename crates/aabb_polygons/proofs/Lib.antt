pub mod Planes
pub mod Walks
