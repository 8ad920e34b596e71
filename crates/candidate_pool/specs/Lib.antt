pub mod Pool
pub mod OpenEdges
pub mod Setting
-- What the inner functions do: no part of what the product promises.
pub mod Offsets
pub mod Room
pub mod Standing
pub mod Steps
