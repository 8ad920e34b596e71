-- For callers: Edges, the laws of open edges; Sides, a side by its number; Rows, the edge table; Runs, the records of one pair in it; Examples.
-- Within: Keys, the packed pair of a side; Lone, Running, Steps, the loops and what the functions put together.
pub mod Examples
pub mod Sides
pub mod Keys
pub mod Edges
pub mod Rows
pub mod Runs
pub mod Lone
pub mod Running
pub mod Steps
