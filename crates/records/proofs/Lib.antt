pub mod Comparing
pub mod Records
pub mod ByRuns
