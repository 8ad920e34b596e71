pub mod Outputs
-- What the inner functions do: no part of what the product promises.
pub mod Written
