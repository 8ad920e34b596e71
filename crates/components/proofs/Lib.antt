-- Joined: laws of specs/Joined.antt. Forest, Turns, Counting: what a store to a link does to the trees, and what a turn of each of the finder's loops does. Lent: the table in a room.
pub mod Joined
pub mod Forest
pub mod Turns
pub mod Counting
pub mod Lent
pub mod Computed
pub mod Once
pub mod Numbers
pub mod Many
