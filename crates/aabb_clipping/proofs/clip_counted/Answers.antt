use Rattle.aabb_clipping.proofs.Delivery.{none_front, short_vertices, short_facets, done}
use Rattle.aabb_clipping.specs.Clip.{clip_result}
use Rattle.geometry.specs.Meshes.{coordinates}
use Rattle.geometry.specs.Triangles.{flat}
use lib.Ieee.{Float}
use lib.Seq.{sets}
use lib.ListN.{length}
use mathlib.Core.List.{List}
use mathlib.Core.Path.{ap, ◌∙◌}
use native.Mathlib.Omega.{arith}
use Prim.Native.Nat.{ℕ}
use Rattle.aabb_clipping.proofs.clip_counted.Goals as goal

pub returns-then-out_vertices-need_vertices : goal.returns-then-out_vertices-need_vertices
unfolding clip_result
returns-then-out_vertices-need_vertices c =
    let run-pass = c.run_pass-need in
    let s = c in
    let a = s.args in
    let p = run-pass in
    let nv = none_front p.new.out_vertices a.out_vertices.now p.auto.out_vertices in
    let nf = none_front p.new.out_facets a.out_facets.now p.auto.out_facets in
    let m = clip_result a.admitted.mesh.vertices.now a.admitted.mesh.facets.now a.admitted.clip in
    short_vertices m a.out_vertices.now _ a.out_facets.now _ p.result.vertices p.result.numbers p.ensures.ran.count p.ensures.ran.numbers (omega
    (arith, c.if-out_vertices-need_vertices.true, ap length nv)) nv nf

pub returns-then-out_facets-need_facets : goal.returns-then-out_facets-need_facets
unfolding clip_result
returns-then-out_facets-need_facets c =
    let s = c in
    let a = s.args in
    let p = c.run_pass-need in
    let nv = none_front p.new.out_vertices a.out_vertices.now p.auto.out_vertices in
    let nf = none_front p.new.out_facets a.out_facets.now p.auto.out_facets in
    let m = clip_result a.admitted.mesh.vertices.now a.admitted.mesh.facets.now a.admitted.clip in
    short_facets m a.out_vertices.now _ a.out_facets.now _ p.result.vertices p.result.numbers p.ensures.ran.count p.ensures.ran.numbers
    (omega (arith, c.if-out_vertices-need_vertices.false, ap length nv)) (omega (arith, c.if-out_facets-need_facets.true, ap length nf)) nv nf

pub run_pass-requires : goal.run_pass-requires
run_pass-requires c = c.run_pass-need.auto.ids ∙ c.requires

pub returns : goal.returns
unfolding clip_result
returns c =
    let run-pass = c.run_pass-need in
    let run-pass2 = c.run_pass in
    let if1 = c.if-out_vertices-need_vertices in
    let if2 = c.if-out_facets-need_facets in
    let s = c in
    let a = s.args in
    let p = run-pass in
    let nv = none_front p.new.out_vertices a.out_vertices.now p.auto.out_vertices in
    let nf = none_front p.new.out_facets a.out_facets.now p.auto.out_facets in
    let m = clip_result a.admitted.mesh.vertices.now a.admitted.mesh.facets.now a.admitted.clip in
    let w = run-pass2 in
    done m a.out_vertices.now _ a.out_facets.now _ p.result.vertices p.result.numbers p.ensures.ran.count p.ensures.ran.numbers (omega (
      arith,
      if1.false,
      ap length nv,
    )) (omega (arith, if2.false, ap length nf)) (w.ensures.ran.vertices ∙ ap (λ (l : List Float). sets l 0 (coordinates m.points)) nv)
    (w.ensures.ran.facets ∙ ap (λ (l : List ℕ). sets l 0 (flat m.facets)) nf)
