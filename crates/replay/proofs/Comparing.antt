-- Laws of comparisons: of a part of a record, and of whole answers. Assumes nothing.
--   part_decides                 a list beside the part of a record that is lent
--   answer_alike, listing_alike  the answer of an operation that writes a mesh, and of one that writes lists
use Prim.Native.Nat.{ℕ, ◌+◌, ◌-◌}
use mathlib.Core.Path.{◌≡◌, sym, ap, ap₂, ◌∙◌, subst}
use mathlib.Core.Bool.{Bool, ◌&&◌}
use mathlib.Core.List.{List}
use native.Mathlib.Omega.{arith}
use native.Mathlib.Nat.{le_of_eq}
use lib.Ieee.{Float, nan}
use lib.ListN.{length, get_or, take, drop, length-drop}
use lib.Seq.{take_all}
use Rattle.std.proofs.lemmas.List.{get_or-drop}
use Rattle.lists.specs.Lists.{Decides}
use Rattle.lists.specs.Regions.{view}
use Rattle.replay.proofs.Deciding.{ends, both}
use Rattle.replay.specs.Layout.{stored_reply, outputs_from}
use Rattle.replay.specs.Words.{Everywhere}
use Rattle.replay.specs.Agreement.{SameDouble, AgreesWith, ThreeListed}

-- a list beside the part of a record that is lent from `from` to `to`
part_decides : (stored output : List ℕ) (from to at n : ℕ) {r : Bool} → from ≡ at → to - from ≡ n → Decides (output ≡ take (to - from) (drop from stored)) r
    → Decides (output ≡ view stored at n) r
part_decides stored output from to at n {r} p q d =
    subst (λ (l : List ℕ). Decides (output ≡ l) r) (ap₂ (λ (i k : ℕ). take k (drop i stored)) p q) d

-- ---- whole answers

-- what is lent of a record from n on, to its end
rest_at : (stored : List ℕ) (n k : ℕ) → get_or (take (length stored - n) (drop n stored)) k 0 ≡ get_or stored (n + k) 0
rest_at stored n k = ap (λ (l : List ℕ). get_or l k 0) (take_all (length stored - n) (drop n stored) (le_of_eq (length-drop n stored))) ∙ get_or-drop n stored k 0

module _ (stored words reply : List ℕ) (from : ℕ) (e : from ≡ outputs_from stored) (same : words ≡ stored) {a : Bool} (replied : Decides (reply ≡ stored_reply words) a) where
  pub answer_alike : (v : List Float) (f w : List ℕ) {b c d : Bool}
      → Decides (Everywhere (λ k. SameDouble (get_or v k nan) (get_or (take (length stored - from) (drop from stored)) k 0)) (length v)) b
      → Decides (Everywhere (λ k. get_or f k 0 ≡ get_or (take (length stored - (from + length v)) (drop (from + length v) stored)) k 0) (length f)) c
      → Decides (Everywhere (λ k. get_or w k 0 ≡ 0) (length w)) d → Decides (AgreesWith stored reply v f w) (a && b && c && d)
  answer_alike v f w p q r =
      ends (AgreesWith stored reply v f w) (both (both (both replied p) q) r)
      (λ x.
      record {
        replied = x.0.0.0 ∙ ap stored_reply same;
        coordinates = λ k l. subst (SameDouble (get_or v k nan)) (rest_at stored from k ∙ ap (λ (n : ℕ). get_or stored (n + k) 0) e) (x.0.0.1 k l);
        numbers = λ k l. x.0.1 k l ∙ rest_at stored (from + length v) k ∙ ap (λ (n : ℕ). get_or stored (n + length v + k) 0) e;
        cleared = x.1;
      })
      (λ y. (
        (
          (
            y.replied ∙ ap stored_reply (sym same),
            λ k l. subst (SameDouble (get_or v k nan)) (ap (λ (n : ℕ). get_or stored (n + k) 0) (sym e) ∙ sym (rest_at stored from k)) (y.coordinates k l),
          ),
          λ k l. y.numbers k l ∙ ap (λ (n : ℕ). get_or stored (n + length v + k) 0) (sym e) ∙ sym (rest_at stored (from + length v) k),
        ),
        y.cleared,
      ))

  pub listing_alike : (x y z w : List ℕ) {b c d f : Bool} → Decides (Everywhere (λ k. get_or w k 0 ≡ 0) (length w)) b
      → Decides (x ≡ take (from + get_or stored 15 0 - from) (drop from stored)) c
      → Decides (y ≡ take (from + get_or stored 15 0 + get_or stored 16 0 - (from + get_or stored 15 0)) (drop (from + get_or stored 15 0) stored)) d
      → Decides (z ≡ take (from + get_or stored 15 0 + get_or stored 16 0 + get_or stored 17 0 - (from + get_or stored 15 0 + get_or stored 16 0))
      (drop (from + get_or stored 15 0 + get_or stored 16 0) stored)) f → Decides (ThreeListed stored reply x y z w) (a && b && c && d && f)
  listing_alike x y z w p q r t =
      let i = outputs_from stored in
      let l = get_or stored 15 0 in
      let m = get_or stored 16 0 in
      let n = get_or stored 17 0 in
      let first = part_decides stored x from (from + l) i l e (omega arith) q in
      let second = part_decides stored y (from + l) (from + l + m) (i + l) m (omega (arith, e)) (omega arith) r in
      let third = part_decides stored z (from + l + m) (from + l + m + n) (i + l + m) n (omega (arith, e)) (omega arith) t in
      ends (ThreeListed stored reply x y z w) (both (both (both (both replied p) first) second) third)
      (λ g. record { replied = g.0.0.0.0 ∙ ap stored_reply same; cleared = g.0.0.0.1; first = g.0.0.1; second = g.0.1; third = g.1 })
      (λ g. ((((g.replied ∙ ap stored_reply (sym same), g.cleared), g.first), g.second), g.third))
