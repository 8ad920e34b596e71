pub mod Halves
pub mod Sorting
pub mod Places
