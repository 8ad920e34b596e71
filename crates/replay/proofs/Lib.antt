pub mod Deciding
pub mod Comparing
pub mod Filling
pub mod Agreeing
pub mod Listing
pub mod Tallying
pub mod Loading
pub mod Further
