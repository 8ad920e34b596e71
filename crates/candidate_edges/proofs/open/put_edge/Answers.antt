use Prim.Native.Nat.{ℕ, suc, ◌+◌}
use native.Mathlib.Omega.{arith}
use mathlib.Core.Path.{◌≡◌, refl, sym, ap, ◌∙◌}
use mathlib.Core.Bool.{Bool, true, false, cond}
use mathlib.Core.List.{List, [], ◌∷◌}
use lib.Dec.{eqb}
use lib.ListN.{set}
use lib.Seq.{sets}
use Rattle.box_faces.specs.declared.faces.FaceMask.{FaceMask}
use Rattle.box_faces.specs.Faces.{has_bit, bit_count}
use Rattle.candidate_edges.proofs.open.put_edge.Goals.{then-eq, else-eq}
use Rattle.candidate_edges.proofs.open.put_edge.Goals as goal

none_counted : (t : Bool) (mask : ℕ) → bit_count (cond t 0 mask) ≡ cond t 0 (bit_count mask)
unfolding bit_count has_bit
none_counted true mask = refl
none_counted false mask = refl

three_put : (w : List ℕ) (at a b c : ℕ) → sets w at (a ∷ b ∷ c ∷ []) ≡ set (set (set w at a) (at + 1) b) (at + 2) c
three_put w at a b c =
    let one : suc at ≡ at + 1 = omega arith in
    let two : suc (suc at) ≡ at + 2 = omega arith in
    λ i. set (set (set w at a) (one i) b) (two i) c

pub returns : goal.returns
returns c =
    let a = c.args in
    let faces : c.if-eq.faces.0 ≡ cond (eqb a.a.0 a.b.0) 0 a.mask.0 = elim c.if-eq.branch [
      | then-eq w ↦ ap (λ (f : FaceMask). f.0) w.faces-is ∙ sym (ap (λ (t : Bool). cond t 0 a.mask.0) (sym c.eq.ensures ∙ w.if-eq.true))
      | else-eq w ↦ ap (λ (f : FaceMask). f.0) w.faces-is ∙ sym (ap (λ (t : Bool). cond t 0 a.mask.0) (sym c.eq.ensures ∙ w.if-eq.false))
    ] in (
      c.write_three.ensures ∙ three_put a.w.now a.at a.a.0 a.b.0 c.if-eq.faces.0 ∙ ap (λ (x : ℕ). set (set (set a.w.now a.at a.a.0) (a.at + 1) a.b.0) (a.at + 2) x) faces,
      c.len.ensures ∙ ap bit_count faces ∙ none_counted (eqb a.a.0 a.b.0) a.mask.0,
    )
