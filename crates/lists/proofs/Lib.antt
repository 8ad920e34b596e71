-- Bools: tests. Every: what all pass. Members: members of the lists that the words of specs/Lists.antt make. Counts: how many pass. Places: 0, 1, .. n - 1.
-- Regions: parts of a buffer. Mapped: sorting and keeping under a function. Stores: runs of stores, and counting up.
-- Sequences: lists made and gone through place by place. Blocks: lists stored one after the other. Pigeonhole: numbers without repeats. First: the first that passes, or none.
-- Found: what a search answers.
pub mod Bools
pub mod Every
pub mod Members
pub mod Counts
pub mod Regions
pub mod Places
pub mod Orders
pub mod SortBy
pub mod Multiplicity
pub mod Mapped
pub mod Stores
pub mod Sequences
pub mod Blocks
pub mod Pigeonhole
pub mod First
pub mod Found
