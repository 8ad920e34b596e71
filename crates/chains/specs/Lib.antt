pub mod Links
pub mod Chains
pub mod Hash
pub mod ByWord
