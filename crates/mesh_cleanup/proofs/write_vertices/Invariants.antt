use mathlib.Core.List.{map}
use Rattle.words.proofs.Overlay.{Writing}
use Rattle.geometry.specs.Meshes.{coordinates, vertex_of}
use Prim.Native.Nat.{◌*◌}
use Rattle.mesh_cleanup.proofs.write_vertices.Given as goal

abbrev pub invariant-loop-k : goal.invariant-loop-k
invariant-loop-k l = Writing (coordinates (map (vertex_of l.vertices) l.order)) l.initial.out l.out (3 * l.k)
