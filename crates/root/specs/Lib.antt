pub mod Doubles
pub mod Bounds
pub mod Root
pub mod Patterns
pub mod Drawn
pub mod Digits
