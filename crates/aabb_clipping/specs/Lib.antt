pub mod Clip
-- What the inner function does: no part of what the product promises.
pub mod Steps
