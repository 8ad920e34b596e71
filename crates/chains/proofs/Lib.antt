-- Firsts: laws of specs/Links.antt. Entering: one id more. Walking: the search of a bucket's chain, for a caller's loop. Hashing: laws of the hash.
-- Words: the table of words. Cells: a search of several buckets, one after the other.
pub mod Firsts
pub mod Entering
pub mod Walking
pub mod Hashing
pub mod Words
pub mod Cells
