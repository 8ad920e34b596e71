pub mod Edges
pub mod Table
