-- Doubles, lists and candidates as the case program looks at them. Assumes nothing.
--   bits_of      the bits of a double, and one pattern for every NaN, whose bits are left open
--   same_bits    two doubles have the same bits
--   stands_at    candidate i, of five words, has this point, as three words
--   free         candidate i is the one at `at`, or comes neither from mesh vertex 0 nor from 1 and is not at the point p
--   place_of     the first candidate at a point, if there is one
--   has_lengths  a reply says that it is done, and that these are the first lengths
use Rattle.std.specs.Prelude.{ℕ, ◌+◌, ◌*◌, ◌/◌, Bool, cond, not, ◌&&◌, ◌||◌, List, ◌∷◌, eqb, length, get_or, Option, Float}
use Rattle.std.specs.Float.{binary64}
use Rattle.std.specs.Float.Ieee.{eq, to_bits}
use Rattle.std.specs.List.{starts_with}
use Rattle.lists.specs.Lists.{first, up_to}

abbrev pub bits_of : Float → ℕ
bits_of x = cond (eq x x) (to_bits binary64 x) 9221120237041090560

abbrev pub same_bits : Float → Float → Bool
same_bits x y = eqb (bits_of x) (bits_of y)

abbrev pub stands_at : List ℕ → List ℕ → ℕ → Bool
stands_at words p i =
    eqb (get_or words (5 * i) 0) (get_or p 0 0) && (eqb (get_or words (5 * i + 1) 0) (get_or p 1 0) && eqb (get_or words (5 * i + 2) 0) (get_or p 2 0))

abbrev pub free : List ℕ → List ℕ → ℕ → ℕ → Bool
free words p at i =
    eqb i at || (not (eqb (get_or words (5 * i + 3) 0) 1) && (not (eqb (get_or words (5 * i + 3) 0) 2) && not (stands_at words p i)))

abbrev pub place_of : List ℕ → List ℕ → Option ℕ
place_of words p = first (stands_at words p) (up_to (length words / 5))

-- the numbers of a reply: 0, for done, and behind it these lengths
abbrev pub has_lengths : List ℕ → List ℕ → Bool
has_lengths reply lengths = starts_with eqb reply (0 ∷ lengths)
