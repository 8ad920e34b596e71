pub mod Front
pub mod Cutting
