pub mod Joined
pub mod Components
pub mod Table
pub mod Forest
