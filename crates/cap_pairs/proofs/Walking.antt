-- The place of the first whose number passes a test, as the library's search answers it. Assumes nothing.
--   first_place     none where it is how many there are
use Prim.Native.Nat.{ℕ}
use mathlib.Core.Bool.{Bool, true, false, cond}
use mathlib.Core.List.{List, [], ◌∷◌, map}
use mathlib.Core.Path.{◌≡◌, refl, sym, subst}
use native.Mathlib.Omega.{arith}
use borrow.Author.Tests.{ltb-true, ltb-false}
use lib.Dec.{ltb}
use lib.ListN.{length, length-map}
use Rattle.std.specs.Prelude.{Option, Some, None}
use Rattle.std.specs.List.{position_or_len}
use Rattle.lists.specs.Lists.{place}
use Rattle.lists.proofs.Members.{place_le}
use Rattle.cap_triangles.specs.Listed.{FirstPlace}

module _ {A : Type 0} (number : A → ℕ) (p : ℕ → Bool) where
  abbrev q : A → Bool
  q x = p (number x)

  place_is : (l : List A) → place p (map number l) ≡ position_or_len q l
  unfolding place
  place_is [] = refl
  place_is (x ∷ l) = grind (arith, place_is l)

  pub first_place : (l : List A) (r : Option ℕ) → r ≡ cond (ltb (position_or_len q l) (length l)) (Some (position_or_len q l)) None
      → FirstPlace (place p (map number l)) (length (map number l)) r
  first_place l r e = subst (FirstPlace (place p (map number l)) (length (map number l))) (sym e) (go (ltb (position_or_len q l) (length l)) refl)
    where
      go : (b : Bool) → ltb (position_or_len q l) (length l) ≡ b → FirstPlace (place p (map number l)) (length (map number l)) (cond b (Some (position_or_len q l)) None)
      go true t = (sym (place_is l), let h = ltb-true (position_or_len q l) (length l) t in let n = length-map l number in omega arith)
      go false t =
          let f = ltb-false (position_or_len q l) (length l) t in
          let s = place_is l in
          let n = length-map l number in
          let m = place_le p (map number l) in
          omega arith
