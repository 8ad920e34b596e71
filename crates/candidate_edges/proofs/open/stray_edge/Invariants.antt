use Prim.Native.Nat.{◌+◌, ◌≤◌}
use mathlib.Core.Path.{◌≡◌}
use lib.ListN.{drop}
use Rattle.lists.specs.Lists.{place}
use Rattle.geometry.specs.Triangles.{threes}
use Rattle.edges.specs.Edges.{open_edges}
use Rattle.candidate_edges.proofs.Passes.{stray}
use Rattle.candidate_edges.proofs.open.stray_edge.Given as goal

-- `stray_edge` meets its contract. The invariant: none of the first i open edges is on no face. Assumes nothing.
abbrev pub invariant-loop-i : goal.invariant-loop-i
invariant-loop-i l =
    (l.i ≤ l.k) × (place (stray l.mesh.vertices.now l.mesh.facets.now l.clip.extents l.clip.eps) (open_edges (threes l.mesh.facets.now))
    ≡ l.i + place (stray l.mesh.vertices.now l.mesh.facets.now l.clip.extents l.clip.eps) (drop l.i (open_edges (threes l.mesh.facets.now))))
