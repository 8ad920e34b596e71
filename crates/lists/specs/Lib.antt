pub mod Lists
pub mod Regions
pub mod Order
pub mod Found
