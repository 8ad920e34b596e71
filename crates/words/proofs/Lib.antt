pub mod Overlay
pub mod Packed
