-- Laws that the proofs cite. Blocks: what is written, as lists that are stored one after the other. Lengths: how many words. Delivery: the reply.
pub mod Blocks
pub mod Lengths
pub mod Delivery
