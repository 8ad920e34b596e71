pub mod Frames
pub mod Fitting
pub mod Completing
