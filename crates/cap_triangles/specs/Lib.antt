pub mod Selection
pub mod Listed
-- What the inner functions do: no part of what the product promises.
pub mod Room
pub mod Steps
