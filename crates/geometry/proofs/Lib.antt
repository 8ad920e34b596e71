pub mod Triangles
pub mod Points
-- Lists three at a time, and meshes as flat lists. Within: |d| ≤ eps by two comparisons.
pub mod Threes
pub mod Meshes
pub mod Within
pub mod FirstUse
pub mod Faces
