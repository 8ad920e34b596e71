pub mod Keys
pub mod Passing
pub mod Facets
pub mod Steps
