pub mod Ranges
pub mod Grids
pub mod Lists
