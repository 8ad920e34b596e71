pub mod Stable
pub mod ByColumns
