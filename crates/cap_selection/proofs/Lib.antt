-- Laws that the proofs cite. Same: what stays as it is. Reading: what the tests answer. Tabling: labels and components. Marking: the loop over the seeds.
-- Ways: pairs and the ways they run. Opening: what the words known of pairs say of sides and triangles. Linking: labels and shared edges.
-- Choosing: the steps together.
pub mod Same
pub mod Reading
pub mod Tabling
pub mod Marking
pub mod Ways
pub mod Opening
pub mod Linking
pub mod Choosing
