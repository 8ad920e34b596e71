pub mod Merging
pub mod Running
