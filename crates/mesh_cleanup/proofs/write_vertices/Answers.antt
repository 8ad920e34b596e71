use Rattle.mesh_cleanup.proofs.Outputs.{vertices_start, vertices_turn, vertices_end}
use mathlib.Core.List.{List, map}
use Rattle.words.proofs.Overlay.{Writing}
use Rattle.geometry.specs.Meshes.{coordinates, vertex_of}
use lib.Ieee.{Float}
use Prim.Native.Nat.{◌+◌, ◌*◌}
use mathlib.Core.Path.{sym, ap, subst, ◌∙◌}
use Rattle.mesh_cleanup.proofs.write_vertices.Goals as goal

pub loop-k-init : goal.loop-k-init
loop-k-init c = let a = c.args in vertices_start a.vertices.now a.order.now a.out.now c.requires.room

pub loop-k-preserved : goal.loop-k-preserved
loop-k-preserved c =
    let a = c.args in
    subst (λ (l : List Float). Writing (coordinates (map (vertex_of a.vertices.now) a.order.now)) a.out.now l (3 * (c.loop-k.k + 1))) (sym c.write_point.ensures)
    (vertices_turn a.vertices.now a.order.now a.out.now c.loop-k.out c.loop-k.k c.loop-k.invariant c.loop-k-test.true c.vertex_at.result
    (c.vertex_at.ensures ∙ ap (vertex_of a.vertices.now) c.vertex_in-v.ensures))

pub returns : goal.returns
returns c = let a = c.args in vertices_end a.vertices.now a.order.now a.out.now c.loop-k.out c.loop-k.k c.loop-k.invariant c.loop-k-test.false
