use lib.ListN.{length}
use lib.Seq.{length-take-le}
use native.Mathlib.Omega.{arith}
use Prim.Native.Nat.{◌/◌}
use mathlib.Core.Path.{refl, sym, ◌∙◌}
use Rattle.std.proofs.lemmas.Result.{err_from_is_err_and}
use Rattle.refusals.proofs.Answers.{refused, behind}
use Rattle.refusals.specs.Answers.{mesh_outputs}
use Rattle.input_tests.specs.Front.{limits}
use Rattle.aabb_clipping.specs.Clip.{clip_tests, clip_result}
use Rattle.aabb_clipping.proofs.Delivery.{ready}
use Rattle.aabb_clipping.proofs.clip_lent.Goals as goal

pub slice_bounds-clip_checked-end : goal.slice_bounds-clip_checked-end
slice_bounds-clip_checked-end c =
    let a = c.args in
    let k = ready a.mesh.vertices.now a.mesh.facets.now a.clip (limits a.ceiling (length a.work.now)) (sym c.check.ensures ∙ c.in_ok-check.was) in
    omega (arith, k.room)

pub slice_bounds-clip_checked-end-2 : goal.slice_bounds-clip_checked-end-2
slice_bounds-clip_checked-end-2 c =
    let a = c.args in
    let k = ready a.mesh.vertices.now a.mesh.facets.now a.clip (limits a.ceiling (length a.work.now)) (sym c.check.ensures ∙ c.in_ok-check.was) in
    sym (length-take-le (length a.mesh.vertices.now / 3) a.work.now k.room)

pub invariant_of-admitted : goal.invariant_of-admitted
invariant_of-admitted c =
    let a = c.args in
    let k = ready a.mesh.vertices.now a.mesh.facets.now a.clip (limits a.ceiling (length a.work.now)) (sym c.check.ensures ∙ c.in_ok-check.was) in
    record { few = k.few; below = k.below }

pub clip_checked-requires : goal.clip_checked-requires
clip_checked-requires c =
    let a = c.args in
    let k = ready a.mesh.vertices.now a.mesh.facets.now a.clip (limits a.ceiling (length a.work.now)) (sym c.check.ensures ∙ c.in_ok-check.was) in
    length-take-le (length a.mesh.vertices.now / 3) a.work.now k.room

pub returns : goal.returns
returns c =
    let a = c.args in
    behind (clip_tests a.mesh.vertices.now a.mesh.facets.now a.clip (limits a.ceiling (length a.work.now))) _ _
    (sym c.check.ensures ∙ c.in_ok-check.was) c.clip_checked.ensures

pub returns-in_err-check : goal.returns-in_err-check
returns-in_err-check c =
    let a = c.args in
    let q = a.clip in
    let p = err_from_is_err_and c.from_residual.result c.from_residual.ensures.1 in
    rw (p.1, p.2)
    (refused (clip_tests a.mesh.vertices.now a.mesh.facets.now q (limits a.ceiling (length a.work.now)))
    (mesh_outputs (clip_result a.mesh.vertices.now a.mesh.facets.now q) a.out_vertices.now a.out_vertices.now a.out_facets.now a.out_facets.now) _
    (sym c.check.ensures ∙ c.in_err-check.was) (refl, (refl, tt)))
