-- Laws that the proofs cite. Blocks: what is written, as lists that are stored one after the other. Delivery: the reply and both outputs.
pub mod Blocks
pub mod Delivery
