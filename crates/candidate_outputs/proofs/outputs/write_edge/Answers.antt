use Prim.Native.Nat.{ℕ, ◌+◌, ◌≤◌}
use lib.ListN.{length, get_or}
use lib.Seq.{sets}
use mathlib.Core.Path.{refl, sym, ap, subst, ◌∙◌}
use Rattle.geometry.proofs.Faces.{face_at}
use native.Mathlib.Omega.{arith}
use Rattle.candidate_outputs.specs.Written.{face_words}
use Rattle.candidate_outputs.proofs.Blocks.{faces_are, faces_long}
use Rattle.lists.proofs.Blocks.{blocks_start, blocks_turn, blocks_room, blocks_end, blocks_place}
use Rattle.candidate_outputs.proofs.outputs.write_edge.Goals as goal

pub loop-face-init : goal.loop-face-init
loop-face-init c =
    let a = c.args in
    (omega arith, blocks_start (face_words (get_or a.w.now (a.edge + 2) 0) (get_or a.w.now a.edge 0) (get_or a.w.now (a.edge + 1) 0)) a.out.now a.at _ refl)

pub write_face-o-requires : goal.write_face-o-requires
write_face-o-requires c =
    let a = c.args in
    let l = faces_long (get_or a.w.now (a.edge + 2) 0) (get_or a.w.now a.edge 0) (get_or a.w.now (a.edge + 1) 0) in
    let r = blocks_room (face_words (get_or a.w.now (a.edge + 2) 0) (get_or a.w.now a.edge 0) (get_or a.w.now (a.edge + 1) 0)) a.out.now
    c.loop-face.out a.at c.loop-face.face-index c.loop-face.o
    c.loop-face.invariant.1 6 c.loop-face-test.true
    (omega (arith, l, c.requires.edge_in_bounds_2)) in
    subst (λ (f : ℕ). c.loop-face.o + length (face_words (get_or a.w.now (a.edge + 2) 0) (get_or a.w.now a.edge 0) (get_or a.w.now (a.edge + 1) 0) f) ≤ length c.loop-face.out)
    (sym (face_at c.loop-face.face-index _ c.loop-face-test.true)) r

pub loop-face-preserved : goal.loop-face-preserved
loop-face-preserved c =
    let a = c.args in
    let words = face_words (get_or a.w.now (a.edge + 2) 0) (get_or a.w.now a.edge 0) (get_or a.w.now (a.edge + 1) 0) in
    let e = face_at c.loop-face.face-index _ c.loop-face-test.true in (
      omega arith,
      blocks_turn (face_words (get_or a.w.now (a.edge + 2) 0) (get_or a.w.now a.edge 0) (get_or a.w.now (a.edge + 1) 0)) a.out.now
          c.loop-face.out a.at c.loop-face.face-index
          c.loop-face.o c.loop-face.invariant.1 _ _
          (c.write_face-o.ensures.1 ∙ ap (λ (f : ℕ). sets c.loop-face.out c.loop-face.o (words f)) e)
          (c.write_face-o.ensures.0 ∙ ap (λ (f : ℕ). c.loop-face.o + length (words f)) e),
    )

pub returns : goal.returns
returns c =
    let a = c.args in (
      blocks_place (face_words (get_or a.w.now (a.edge + 2) 0) (get_or a.w.now a.edge 0) (get_or a.w.now (a.edge + 1) 0)) a.out.now c.loop-face.out a.at
          c.loop-face.face-index c.loop-face.o c.loop-face.invariant.1 6 c.loop-face.invariant.0 c.loop-face-test.false _
          (faces_are (get_or a.w.now (a.edge + 2) 0) (get_or a.w.now a.edge 0) (get_or a.w.now (a.edge + 1) 0)),
      blocks_end
          (face_words (get_or a.w.now (a.edge + 2) 0) (get_or a.w.now a.edge 0) (get_or a.w.now (a.edge + 1) 0)) a.out.now c.loop-face.out a.at
          c.loop-face.face-index c.loop-face.o c.loop-face.invariant.1 6 c.loop-face.invariant.0 c.loop-face-test.false _
          (faces_are (get_or a.w.now (a.edge + 2) 0) (get_or a.w.now a.edge 0) (get_or a.w.now (a.edge + 1) 0)),
    )
