pub mod Groups
pub mod Staged
