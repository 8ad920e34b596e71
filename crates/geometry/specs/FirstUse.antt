-- Numbers given out by first use, as a table: what inner functions of cleaning and of closing keep; no part of what the product promises. Assumes nothing.
--   Named       the table so far        new_number   a number that it gave        enter   one more use
use Rattle.std.specs.Prelude.{ℕ, ◌+◌, ◌-◌, cond, List, [], ◌∷◌, ◌++◌, eqb, get_or, set, length}
use Rattle.geometry.specs.declared.point.Point.{Point}

-- of each old number 1 more than its new one, or 0 while it has none; and the vertices numbered so far
pub record Named : Type 0 where
  pub given : List ℕ
  pub points : List Point

abbrev pub new_number : Named → ℕ → ℕ
new_number n v = get_or n.given v 0 - 1

-- v's point is added at its first use, and v gets its number
unfoldable pub enter : (ℕ → Point) → Named → ℕ → Named
enter at n v =
    cond (eqb (get_or n.given v 0) 0)
    (record { given = set n.given v (length n.points + 1); points = n.points ++ (at v ∷ []) })
    n
