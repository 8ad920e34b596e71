pub mod Comparing
pub mod Cleaning
pub mod Closing
pub mod Halves
