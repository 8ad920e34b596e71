-- Laws that the proofs cite. Together: components and chains. Rings: rings, and by degrees. Numbered: groups by the numbers of components. ByNumber: runs by keys.
-- Listed: the sorted records. Stores, Walks: the loops. Grouping: the steps together. Assumes nothing.
pub mod Together
pub mod Rings
pub mod Numbered
pub mod ByNumber
pub mod Listed
pub mod Stores
pub mod Walks
pub mod Grouping
