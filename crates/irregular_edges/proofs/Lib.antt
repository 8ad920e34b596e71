-- For callers: Found, the irregular edges are the pairs of the irregular runs of the edge table. Within: Exchange, keeping and sorting by the pair; Groups,
-- runs and the irregular ones among them; Pairs, the different pairs by their keys; Walking, the loop over the runs.
pub mod Exchange
pub mod Groups
pub mod Pairs
pub mod Found
pub mod Walking
