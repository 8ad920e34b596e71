pub mod Delivery
pub mod UnderBoth
