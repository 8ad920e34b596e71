pub mod Closing
-- What the inner functions do: no part of what the product promises.
pub mod Entering
pub mod Steps
