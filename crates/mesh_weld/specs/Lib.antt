pub mod Joining
pub mod Weld
pub mod Cells
pub mod Room
