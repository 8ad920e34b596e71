pub mod Irregular
pub mod Listed
