pub mod Rounding
pub mod Ordering
pub mod Whole
