pub mod Filters
pub mod Room
