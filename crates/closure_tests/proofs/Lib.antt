pub mod Checking
pub mod UnderBoth
