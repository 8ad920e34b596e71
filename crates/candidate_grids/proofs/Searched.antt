-- Laws of a search among the first numbers that stops at the first that passes. Assumes nothing.
--   none_yet, none_more      none among those before the first, and none more
--   one_there, none_there    the loop stopped; it came to the end
use Prim.Native.Nat.{ℕ, ◌+◌, ◌≤◌, ◌<◌}
use native.Mathlib.Omega.{arith}
use mathlib.Core.Path.{◌≡◌, refl, sym, ap, ◌∙◌, subst}
use mathlib.Core.Bool.{Bool, true, false}
use lib.Dec.{T}
use Rattle.lists.specs.Lists.{some, up_from, up_to}
use Rattle.lists.proofs.Bools.{or_next, is_true}
use Rattle.lists.proofs.Members.{some_of}
use Rattle.lists.proofs.Places.{up_of}
use Rattle.lists.proofs.Sequences.{some_up}

pub none_yet : (p : ℕ → Bool) → some p (up_to 0) ≡ false
unfolding up_from
none_yet p = refl

pub none_more : (p : ℕ → Bool) (i : ℕ) → some p (up_to i) ≡ false → p i ≡ false → some p (up_to (i + 1)) ≡ false
none_more p i e f = some_up p i ∙ or_next (some p (up_to i)) (p i) false e f

pub one_there : (p : ℕ → Bool) (n i : ℕ) → i < n → p i ≡ true → true ≡ some p (up_to n)
one_there p n i h e = sym (is_true (some p (up_to n)) (some_of p (up_of 0 n (omega arith) (omega arith)) (subst T (sym e) tt)))

pub none_there : (p : ℕ → Bool) (n i : ℕ) → i ≤ n → n ≤ i → some p (up_to i) ≡ false → false ≡ some p (up_to n)
none_there p n i h k e = let q : i ≡ n = omega arith in sym (ap (λ (x : ℕ). some p (up_to x)) (sym q) ∙ e)
