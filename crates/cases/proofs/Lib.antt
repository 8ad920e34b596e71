pub mod Rows
pub mod Meshes
pub mod Turned
pub mod Lists
