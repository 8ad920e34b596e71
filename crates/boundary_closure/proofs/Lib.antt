pub mod Delivery
pub mod Listing
pub mod UnderBoth
