use Prim.Native.Nat.{ℕ, ◌<◌}
use mathlib.Core.Path.{sym, subst}
use native.Mathlib.Omega.{arith}
use Rattle.candidate_edges.proofs.Faces.{mask_small}
use Rattle.candidate_edges.proofs.Passes.{corner_in, corner_out}
use Rattle.candidate_edges.proofs.corners.enter_corner.Goals as goal

pub enter_vertex-requires : goal.enter_vertex-requires
enter_vertex-requires c =
    let s = c in
    let a = s.args in
    let p = c.vertex_at-p in
    let m = c.between-mask in
    let small = subst (λ (x : ℕ). x < 64) (sym m.ensures) (mask_small a.clip.extents a.clip.eps p.result p.result) in record {
      sources_ready = s.requires.sources_ready;
      v_in_bounds = (s.requires.v_in_bounds, small);
    }

pub returns-then-len-ge2 : goal.returns-then-len-ge2
returns-then-len-ge2 c =
    let s = c in
    let a = s.args in
    let p = c.vertex_at-p in
    let m = c.between-mask in
    let v = c.enter_vertex in
    corner_in a.vertices.now a.clip.extents a.clip.eps a.room.n a.v.0 m.result.0 p.result a.w.now s.requires.sources_ready p.ensures m.ensures v.result.0 v.new.w
    (omega (arith, c.if-len-ge2.true, c.len.ensures)) v.ensures

pub returns-else-len-ge2 : goal.returns-else-len-ge2
returns-else-len-ge2 c =
    let s = c in
    let a = s.args in
    let p = c.vertex_at-p in
    let m = c.between-mask in
    corner_out a.vertices.now a.clip.extents a.clip.eps a.room.n a.v.0 m.result.0 p.result a.w.now s.requires.sources_ready p.ensures m.ensures
    (omega (arith, c.if-len-ge2.false, c.len.ensures))
