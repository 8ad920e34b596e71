use Rattle.mesh_weld.proofs.Steps.{taken, tail_low, kept_new}
use Rattle.mesh_weld.specs.Room.{kept_points, words_of, WeldedSoFar}
use Rattle.mesh_weld.specs.Cells.{key_of, cells}
use Rattle.geometry.specs.declared.point.Point.{Point}
use lib.ListN.{set}
use Prim.Native.Nat.{ℕ, ◌+◌, ◌*◌}
use mathlib.Core.List.{List}
use mathlib.Core.Path.{sym, ap, ◌∙◌, subst}
use Rattle.mesh_weld.proofs.weld.weld_vertex.Goals as goal

pub returns-in-Some : goal.returns-in-Some
returns-in-Some c =
    let a = c.args in
    taken a.vs.now a.eps a.n a.v.0 a.count a.m.now c.requires.welded_so_far c.requires.v_lt_n c.in-Some.k
    (sym c.in-Some.is ∙ c.search.ensures ∙ ap (λ (q : Point). (cells a.eps).find q (kept_points a.vs.now a.n a.count a.m.now)) c.vertex_at-p.ensures)

pub enter-requires-clause-b_bound : goal.enter-requires-clause-b_bound
enter-requires-clause-b_bound c =
    let a = c.args in
    tail_low a.vs.now a.eps a.n a.v.0 a.count a.m.now c.requires.welded_so_far c.requires.v_lt_n c.bucket-b.result c.bucket-b.ensures.low

pub returns : goal.returns
returns c =
    let a = c.args in
    let E = c.cell_of-c.ensures ∙ ap (λ (q : Point). words_of (key_of a.eps q)) c.vertex_at-p.ensures in
    subst (λ (l : List ℕ). WeldedSoFar a.vs.now a.eps a.n (a.v.0 + 1) (a.count + 1) (set l (10 * a.n + a.v.0) a.count))
    (sym (c.keep.ensures ∙ ap (λ (l : List ℕ). set
    (set (set (set l (9 * a.n + a.count) a.v.0) (11 * a.n + 3 * a.count)
    c.cell_of-c.result.x) (11 * a.n + 3 * a.count + 1)
    c.cell_of-c.result.y) (11 * a.n + 3 * a.count + 2)
    c.cell_of-c.result.z)
    c.enter.ensures))
    (kept_new a.vs.now a.eps a.n a.v.0 a.count a.m.now c.requires.welded_so_far c.requires.v_lt_n
    c.bucket-b.result
    c.cell_of-c.result E
    c.bucket-b.ensures
    (sym c.in_default.is ∙ c.search.ensures ∙ ap (λ (q : Point). (cells a.eps).find q (kept_points a.vs.now a.n a.count a.m.now)) c.vertex_at-p.ensures))
