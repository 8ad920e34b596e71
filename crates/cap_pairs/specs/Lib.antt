-- What the inner functions do: no part of what the product promises.
pub mod Pairs
pub mod Steps
