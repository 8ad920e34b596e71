-- Laws of what a search answers.
--   found_none, found_some   it answers none where none passes, else the place of the first
--   none_found, some_found   and so what an answer says
use Prim.Native.Nat.{ℕ, ◌<◌}
use native.Mathlib.Omega.{arith}
use native.Mathlib.Decide.{ℕ_discrete}
use mathlib.Core.Path.{◌≡◌, refl, ap, ◌∙◌}
use mathlib.Core.Bool.{Bool, cond}
use mathlib.Core.List.{List}
use lib.ListN.{length}
use borrow.Author.Tests.{eq-eqb, ne_eqb}
use Rattle.std.specs.Prelude.{Some, None}
use Rattle.lists.specs.Lists.{place}
use Rattle.lists.specs.Found.{found}
use Rattle.lists.proofs.Members.{place_le}

module _ {A : Type 0} (p : A → Bool) (l : List A) where
  pub found_none : place p l ≡ length l → found p l ≡ None
  unfolding found
  found_none e = ap (λ (b : Bool). cond b None (Some (place p l))) (eq-eqb (place p l) (length l) e)

  pub found_some : (k : ℕ) → place p l ≡ k → k < length l → found p l ≡ Some k
  unfolding found
  found_some k e h =
      let d : place p l ≡ length l → ⊥ = λ q. omega arith in
      ap (λ (b : Bool). cond b None (Some (place p l))) (ne_eqb (place p l) (length l) d) ∙ ap Some e

  pub none_found : found p l ≡ None → place p l ≡ length l
  none_found q = go (ℕ_discrete (place p l) (length l))
    where
      go : Dec (place p l ≡ length l) → place p l ≡ length l
      go (yes e) = e
      go (no d) = let s : found p l ≡ Some (place p l) = found_some (place p l) refl (below d) in let z : ◌≡◌ {A = ℕ} 0 1 = cc in absurd (omega arith)
        where
          below : (place p l ≡ length l → ⊥) → place p l < length l
          below d = omega (arith, place_le p l)

  pub some_found : (k : ℕ) → found p l ≡ Some k → (place p l ≡ k) × (k < length l)
  some_found k q = go (ℕ_discrete (place p l) (length l))
    where
      go : Dec (place p l ≡ length l) → (place p l ≡ k) × (k < length l)
      go (yes e) = let s : found p l ≡ None = found_none e in let z : ◌≡◌ {A = ℕ} 0 1 = cc in absurd (omega arith)
      go (no d) =
          let low : place p l < length l = omega (arith, place_le p l) in
          let s : found p l ≡ Some (place p l) = found_some (place p l) refl low in
          let e : place p l ≡ k = cc in
          (e, omega arith)
