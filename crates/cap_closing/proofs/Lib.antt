-- Laws that the proofs cite. Growth: numbers given out by first use. Upwards: lists made place by place. Numbering: a candidate entered in the room. Corners: the three of a
-- triangle, and where they stand. Remaining: facets left. Turns: the loop over the triangles. Places: the first of each kind. Sorted: records of a key and a place. Marks: the loop
-- that marks the first ones. Beginning: the room before any corner is entered. Entered: the numbers given out without their table. Whole: the steps together.
pub mod Growth
pub mod Upwards
pub mod Numbering
pub mod Corners
pub mod Remaining
pub mod Turns
pub mod Places
pub mod Sorted
pub mod Marks
pub mod Beginning
pub mod Entered
pub mod Whole
