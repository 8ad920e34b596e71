pub mod Modes
pub mod Operation
-- What the inner functions do: no part of what the product promises.
pub mod Steps
