-- Keys as words (specs/Rounding.antt), as the machine works them out. Assumes nothing.
use mathlib.Core.Path.{◌≡◌, refl, ap}
use Prim.Native.Nat.{ℕ, zero, suc, ◌+◌, ◌-◌, ◌^◌, ◌<◌}
use native.Mathlib.Omega.{arith}
use lib.IntN.{ℤ, pos, negsuc, nat_abs, suc_ℤ, ◌-ℤ◌}
use Rattle.std.proofs.lemmas.Int.{ints}
use mir.Syntax.{w64}
use mir.Val.{SFits}
use Rattle.rounding.specs.Rounding.{key_word}

-- how far a key is above the least
pub above_least : (k : ℤ) → SFits w64 k → nat_abs (k -ℤ negsuc (2 ^ 63 - 1)) ≡ key_word k
unfolding key_word
above_least (pos n) f = omega arith
above_least (negsuc n) f = grind (arith, ints, f.sfits)

-- ---- words tell keys apart

pub same_word : (j k : ℤ) → SFits w64 j → SFits w64 k → key_word j ≡ key_word k → j ≡ k
unfolding key_word
same_word (pos m) (pos n) f g e = ap pos (both m n e)
  where
    both : (m n : ℕ) → 2 ^ 63 + m ≡ 2 ^ 63 + n → m ≡ n
    both m n e = omega arith
same_word (pos m) (negsuc n) f g e = absurd (no m n e)
  where
    no : (m n : ℕ) → 2 ^ 63 + m ≡ 2 ^ 63 - 1 - n → ⊥
    no m n e = omega arith
same_word (negsuc m) (pos n) f g e = absurd (no m n e)
  where
    no : (m n : ℕ) → 2 ^ 63 - 1 - m ≡ 2 ^ 63 + n → ⊥
    no m n e = omega arith
same_word (negsuc m) (negsuc n) f g e = ap negsuc (both m n f.sfits g.sfits e)
  where
    both : (m n : ℕ) → m < 2 ^ 63 → n < 2 ^ 63 → 2 ^ 63 - 1 - m ≡ 2 ^ 63 - 1 - n → m ≡ n
    both m n f g e = omega arith

-- the next key's word is the next word
pub next_word : (k : ℤ) → SFits w64 k → key_word (suc_ℤ k) ≡ suc (key_word k)
unfolding key_word
next_word (pos n) f = omega arith
next_word (negsuc zero) f = refl
next_word (negsuc (suc n)) f = step n f.sfits
  where
    step : (n : ℕ) → suc n < 2 ^ 63 → 2 ^ 63 - 1 - n ≡ suc (2 ^ 63 - 1 - suc n)
    step n h = omega arith
