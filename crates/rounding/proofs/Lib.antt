pub mod Whole
pub mod Rounding
pub mod Keys
pub mod Segments
pub mod Ordering
pub mod Examples
