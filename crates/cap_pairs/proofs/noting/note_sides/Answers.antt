use Rattle.cap_pairs.proofs.Targets.{note_side_turn}
use Rattle.cap_pairs.proofs.Adding.{noted_start}
use Rattle.cap_pairs.specs.Steps.{Added, side_target, side_face}
use native.Mathlib.Omega.{arith}
use lib.ListN.{length, get_or}
use lib.Dec.{eqb}
use mathlib.Core.Path.{refl, ap, subst, ◌∙◌}
use Prim.Native.Nat.{ℕ, ◌+◌, ◌/◌}
use Rattle.cap_pairs.proofs.noting.note_sides.Goals as goal

pub loop-s-init : goal.loop-s-init
loop-s-init c =
    let a = c.args in
    (noted_start (side_target a.caps.n a.caps.nf (length a.caps.list.now / 4) a.w.now a.caps.k) (λ s. eqb (side_face a.caps.list.now s)) a.w.now, omega arith)

pub loop-s-preserved : goal.loop-s-preserved
loop-s-preserved c =
    let s = c in
    let a = s.args in
    let numbers-at' = c.numbers_at in
    let held-at' = c.held_at-held in
    let l = c.loop-s in
    let add-face' = c.add_face in (
      note_side_turn a.caps.n a.caps.nf a.caps.k a.caps.list.now a.w.now s.requires.tables_for s.requires.by_index s.requires.by_index_2 l.w l.s l.invariant.0 (numbers-at'.result + a.caps.k)
          held-at'.result (omega arith) held-at'.ensures (omega arith) (get_or l.w (numbers-at'.result + a.caps.k + l.s) 0) refl add-face'.new.w
          (subst (λ (f : ℕ). Added l.w add-face'.new.w (held-at'.result + get_or l.w (numbers-at'.result + a.caps.k + l.s) 0) (eqb f))
          (c.supplied_face.ensures ∙ ap (λ (x : ℕ). get_or a.caps.list.now x 0) (omega arith)) add-face'.ensures),
      omega
          arith,
    )
