-- Laws of `every` and `some`: of a loop that looks at each element and stops at the first that decides, and of what such a loop found.
use Prim.Native.Nat.{ℕ, zero, suc, ◌+◌, ◌≤◌, ◌<◌}
use mathlib.Core.Bool.{Bool, true, false, ◌&&◌, ◌||◌}
use mathlib.Core.List.{List, [], ◌∷◌}
use mathlib.Core.Path.{◌≡◌, sym, ap, ◌∙◌}
use native.Mathlib.Numerals.{add-one}
use native.Mathlib.Nat.{not-suc-le-zero, le_of_suc-le-suc}
use lib.ListN.{length, drop, get_or, drop_of_length-le}
use lib.Seq.{drop-cons}
use Rattle.lists.specs.Lists.{every, some}
use Rattle.lists.proofs.Bools.{and_left, and_right, or_none_left, or_none_right}

-- the elements before i passed
module _ {A : Type 0} (p : A → Bool) (l : List A) (i : ℕ) (e : every p l ≡ every p (drop i l)) where
  pub every_stop : (d : A) → i < length l → p (get_or l i d) ≡ false → every p l ≡ false
  every_stop d h f = e ∙ ap (every p) (drop-cons l i d h) ∙ ap (λ (b : Bool). b && every p (drop (suc i) l)) f

  pub every_more : (d : A) → i < length l → p (get_or l i d) ≡ true → every p l ≡ every p (drop (i + 1) l)
  every_more d h f =
      e ∙ ap (every p) (drop-cons l i d h) ∙ ap (λ (b : Bool). b && every p (drop (suc i) l)) f ∙ ap (λ (n : ℕ). every p (drop n l)) (sym (add-one i))

  pub every_end : length l ≤ i → every p l ≡ true
  every_end h = e ∙ ap (every p) (drop_of_length-le l {i = i} h)

-- none of the elements before i passed
module _ {A : Type 0} (p : A → Bool) (l : List A) (i : ℕ) (e : some p l ≡ some p (drop i l)) where
  pub some_stop : (d : A) → i < length l → p (get_or l i d) ≡ true → some p l ≡ true
  some_stop d h f = e ∙ ap (some p) (drop-cons l i d h) ∙ ap (λ (b : Bool). b || some p (drop (suc i) l)) f

  pub some_more : (d : A) → i < length l → p (get_or l i d) ≡ false → some p l ≡ some p (drop (i + 1) l)
  some_more d h f =
      e ∙ ap (some p) (drop-cons l i d h) ∙ ap (λ (b : Bool). b || some p (drop (suc i) l)) f ∙ ap (λ (n : ℕ). some p (drop n l)) (sym (add-one i))

  pub some_end : length l ≤ i → some p l ≡ false
  some_end h = e ∙ ap (some p) (drop_of_length-le l {i = i} h)

pub every_at : {A : Type 0} (p : A → Bool) (l : List A) (i : ℕ) (d : A) → every p l ≡ true → i < length l → p (get_or l i d) ≡ true
every_at p [] i d e h = absurd (not-suc-le-zero h)
every_at p (x ∷ xs) zero d e h = and_left (p x) (every p xs) e
every_at p (x ∷ xs) (suc i) d e h = every_at p xs i d (and_right (p x) (every p xs) e) (le_of_suc-le-suc h)

pub none_at : {A : Type 0} (p : A → Bool) (l : List A) (i : ℕ) (d : A) → some p l ≡ false → i < length l → p (get_or l i d) ≡ false
none_at p [] i d e h = absurd (not-suc-le-zero h)
none_at p (x ∷ xs) zero d e h = or_none_left (p x) (some p xs) e
none_at p (x ∷ xs) (suc i) d e h = none_at p xs i d (or_none_right (p x) (some p xs) e) (le_of_suc-le-suc h)
