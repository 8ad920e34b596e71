use Rattle.aabb_clipping.proofs.Delivery.{done}
use Rattle.aabb_clipping.specs.Clip.{clip_result}
use native.Mathlib.Omega.{arith}
use Rattle.aabb_clipping.proofs.clip_checked.Goals as goal

pub returns : goal.returns
unfolding clip_result
returns c =
    let run-pass = c.run_pass-made in
    let is-ample = c.is_ample in
    let if1 = c.if-not-is_ample in
    let s = c in
    let a = s.args in
    let p = run-pass in
    let fits = is-ample.ensures if1.false in
    let m = clip_result a.admitted.mesh.vertices.now a.admitted.mesh.facets.now a.admitted.clip in
    done m a.out_vertices.now _ a.out_facets.now _ p.result.vertices p.result.numbers p.ensures.ran.count p.ensures.ran.numbers (omega (
      arith,
      p.ensures.ran.count,
      fits.vertices,
    )) (omega (arith, p.ensures.ran.numbers, fits.facets)) p.ensures.ran.vertices p.ensures.ran.facets
