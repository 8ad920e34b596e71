pub mod Asked
pub mod Candidates
-- What the inner functions do: no part of what the product promises.
pub mod Steps
