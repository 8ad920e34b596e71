-- Words of the test exports' contracts. Assumes nothing.
--   RootOr x r    r is the root of x where x has one, else x itself
--   in_reach x     x is at most 2 ^ 1021 in magnitude
--   LengthOr x y r   r is the length of a segment with the extents x and y where both are in reach, else x itself
--   BelowUpTo   the first e words from `at` on are below m
--   LinksFound     the first n words of `found` are the links of the words asked for
use Rattle.std.specs.Prelude.{ℕ, ◌+◌, ◌<◌, Bool, not, ◌&&◌, List, ◌≡◌, T, eqb, Float, get_or}
use Rattle.std.specs.Float.Ieee.{le, neg}
use Rattle.chains.specs.Links.{link_to}
use Rattle.root.specs.Doubles.{bits}
use Rattle.root.specs.Root.{rootable, Rooted}
use Rattle.hypot.specs.Length.{Measured}

pub record RootOr (x r : Float) : Type 0 where
  pub found : T (rootable x) → Rooted x r
  pub other : T (not (rootable x)) → r ≡ x

unfoldable pub in_reach : Float → Bool
in_reach x = le (neg (bits 0x7fc0_0000_0000_0000)) x && le x (bits 0x7fc0_0000_0000_0000)

pub record LengthOr (x y r : Float) : Type 0 where
  pub found : T (in_reach x && in_reach y) → Measured x y r
  pub other : T (not (in_reach x && in_reach y)) → r ≡ x

abbrev pub BelowUpTo : List ℕ → ℕ → ℕ → ℕ → Type 0
BelowUpTo w at e m = (t : ℕ) → t < e → get_or w (at + t) 0 < m

abbrev pub LinksFound : List ℕ → List ℕ → List ℕ → ℕ → Type 0
LinksFound keys asked found n = (i : ℕ) → i < n → get_or found i 0 ≡ link_to (eqb (get_or asked i 0)) keys
