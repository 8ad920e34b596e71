use Rattle.cap_triangles.proofs.Turns.{turning_face, turning_asks, turning_more, turning_end}
use Rattle.geometry.specs.Numbers.{candidates_of}
use mathlib.Core.Path.{ap, ◌∙◌}
use Prim.Native.Nat.{ℕ}
use native.Mathlib.Omega.{arith}
use Rattle.cap_triangles.specs.Steps.{turned_by}
use Rattle.cap_triangles.proofs.turning.turn_caps.Goals as goal

pub supplied_face-requires : goal.supplied_face-requires
supplied_face-requires c =
    let start = c in
    let a = start.args in
    (omega arith, turning_face a.caps.n a.caps.nf a.caps.list.now a.w.now start.requires.supplied start.requires.good _ (omega arith))

pub orient_face_triangle-t-requires : goal.orient_face_triangle-t-requires
orient_face_triangle-t-requires c =
    let start = c in
    let a = start.args in
    let l = c.loop-i in
    turning_asks a.caps.n a.caps.nf a.caps.list.now a.w.now start.requires.supplied start.requires.good l.w l.i l.invariant c.loop-i-test.true
    (candidates_of c.supplied.result) c.supplied.ensures

pub loop-i-preserved : goal.loop-i-preserved
loop-i-preserved c =
    let start = c in
    let a = start.args in
    let l = c.loop-i in
    turning_more a.caps.n a.caps.nf a.caps.list.now a.w.now start.requires.supplied start.requires.good l.w l.i l.invariant c.loop-i-test.true
    (candidates_of c.supplied.result) c.supplied.ensures c.turned_at-turned.result
    c.turned_at-turned.ensures (candidates_of c.orient_face_triangle-t.result)
    (c.orient_face_triangle-t.ensures ∙ ap (λ (f : ℕ). turned_by l.w f (candidates_of c.supplied.result)) c.supplied_face.ensures)

pub returns : goal.returns
returns c =
    let start = c in
    let a = start.args in
    let l = c.loop-i in
    (l.invariant.above, turning_end a.caps.n a.caps.nf a.caps.list.now a.w.now start.requires.supplied start.requires.good l.w l.i l.invariant (omega (arith, c.loop-i-test.false)))
