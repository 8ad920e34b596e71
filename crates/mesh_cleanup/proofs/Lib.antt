pub mod Outputs
pub mod Staging
pub mod Delivery
pub mod UnderBoth
