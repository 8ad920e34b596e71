-- Numbers that are kept apart (document 01, "Forms that must change"): "mesh vertex, cap candidate, place within a face; each gets its own type".
-- A definition speaks of plain whole numbers; these say which the wrapped ones are. Assumes nothing.
--   candidates_of, mesh_vertices_of   a triangle of wrapped numbers as a triangle of numbers
use Rattle.std.specs.Prelude.{ℕ}
use Rattle.geometry.specs.declared.numbers.CandidateVertexId.{CandidateVertexId}
use Rattle.geometry.specs.declared.numbers.MeshVertexId.{MeshVertexId}
use Rattle.geometry.specs.Triangles.{Triangle, mapped}

abbrev pub candidates_of : Triangle CandidateVertexId → Triangle ℕ
candidates_of t = mapped (λ v. v.0) t

abbrev pub mesh_vertices_of : Triangle MeshVertexId → Triangle ℕ
mesh_vertices_of t = mapped (λ v. v.0) t
