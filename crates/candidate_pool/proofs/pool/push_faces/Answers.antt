use Prim.Native.Nat.{ℕ, ◌+◌}
use mathlib.Core.Path.{sym, ap, subst, ◌∙◌}
use mathlib.Core.List.{List}
use native.Mathlib.Omega.{arith}
use Rattle.geometry.proofs.Faces.{face_at}
use Rattle.box_faces.specs.Faces.{has_bit}
use Rattle.candidate_pool.specs.Standing.{FaceAdded}
use Rattle.candidate_pool.proofs.Adding.{Adding, adding_start, adding_low, adding_turn, adding_skip, adding_end}
use Rattle.candidate_pool.proofs.pool.push_faces.Goals.{then-contains, else-contains}
use Rattle.candidate_pool.proofs.pool.push_faces.Goals as goal

pub loop-face-init : goal.loop-face-init
loop-face-init c = adding_start c.args.eps c.args.room.n c.args.id.0 c.args.mask.0 c.args.w.now c.requires.id_bound c.requires.holds

pub push_face-requires-clause-id_bound : goal.push_face-requires-clause-id_bound
push_face-requires-clause-id_bound c =
    adding_low c.args.eps c.args.room.n c.args.id.0 c.args.mask.0 c.args.w.now c.requires.id_bound c.loop-face.face-index c.loop-face.w c.loop-face.invariant

pub loop-face-preserved : goal.loop-face-preserved
loop-face-preserved c =
    let a = c.args in
    let e = face_at c.loop-face.face-index _ c.loop-face-test.true in
    let said = ap (has_bit a.mask.0) (sym e) ∙ sym c.contains.ensures in
    elim c.if-contains.branch [
      | then-contains w ↦ subst (λ (u : List ℕ). Adding a.eps a.room.n a.id.0 a.mask.0 (c.loop-face.face-index + 1) a.w.now u) (sym w.w-is)
          (adding_turn a.eps a.room.n a.id.0 a.mask.0 a.w.now c.requires.id_bound c.loop-face.face-index c.loop-face.w c.loop-face.invariant
          w.push_face.new.w (said ∙ w.if-contains.true) (subst (λ f. FaceAdded a.eps a.room.n a.id.0 f c.loop-face.w w.push_face.new.w) e w.push_face.ensures))
      | else-contains w ↦ subst (λ (u : List ℕ). Adding a.eps a.room.n a.id.0 a.mask.0 (c.loop-face.face-index + 1) a.w.now u) (sym w.w-is)
          (adding_skip a.eps a.room.n a.id.0 a.mask.0 a.w.now c.requires.id_bound c.loop-face.face-index c.loop-face.w c.loop-face.invariant
          (said ∙ w.if-contains.false))
    ]

pub returns : goal.returns
returns c =
    adding_end c.args.eps c.args.room.n c.args.id.0 c.args.mask.0 c.args.w.now c.requires.id_bound c.loop-face.face-index c.loop-face.w (omega arith) c.loop-face.invariant
