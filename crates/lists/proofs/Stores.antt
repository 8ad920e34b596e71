-- Laws of a run of stores (`sets` of lib.Seq), and of counting up. Assumes nothing.
--   sets_append       a run in two parts          up_from_cons   numbers from k on
use Prim.Native.Nat.{ℕ, suc, ◌+◌}
use native.Mathlib.Omega.{arith}
use mathlib.Core.Path.{◌≡◌, ap, ◌∙◌}
use mathlib.Core.List.{List, [], ◌∷◌, ◌++◌}
use lib.ListN.{length, set}
use lib.Seq.{sets}
use Rattle.lists.specs.Lists.{up_from}

pub sets_append : {A : Type 0} (l : List A) (i : ℕ) (xs ys : List A) → sets l i (xs ++ ys) ≡ sets (sets l i xs) (i + length xs) ys
sets_append l i [] ys = ap (λ (k : ℕ). sets l k ys) (omega arith)
sets_append l i (x ∷ xs) ys = sets_append (set l i x) (suc i) xs ys ∙ ap (λ (k : ℕ). sets (sets (set l i x) (suc i) xs) k ys) (omega arith)

pub up_from_cons : (k n m : ℕ) → n ≡ suc m → up_from k n ≡ k ∷ up_from (suc k) m
unfolding up_from
up_from_cons k n m e = ap (up_from k) e
