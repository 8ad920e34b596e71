pub mod Checking
pub mod Regular
pub mod Nothing
pub mod Staging
pub mod Delivery
pub mod UnderBoth
