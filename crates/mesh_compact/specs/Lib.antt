pub mod Status
pub mod Compact
pub mod Room
