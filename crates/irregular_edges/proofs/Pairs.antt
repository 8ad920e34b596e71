-- The different pairs of sides are the different keys of their records. S is a list of sides with ends below 2^32. Assumes nothing.
--   unpacked          a key's two numbers
--   distinct_pairs    of records of sides: the different pairs, unpacked from the different keys
use Prim.Native.Nat.{ℕ}
use mathlib.Core.Bool.{Bool, true, false, cond, ◌||◌}
use mathlib.Core.List.{List, [], ◌∷◌, map}
use mathlib.Core.Path.{◌≡◌, refl, sym, ap, ◌∙◌}
use lib.Dec.{eqb}
use lib.ListN.{get_or}
use Rattle.lists.specs.Lists.{some, distinct, distinct_from}
use Rattle.lists.proofs.Mapped.{Each}
use Rattle.words.specs.Packed.{pair_first, pair_second}
use Rattle.edges.specs.Edges.{sorted_pair, same_pair}
use Rattle.edges.specs.Table.{side_of}
use Rattle.edges.proofs.Sides.{Small}
use Rattle.edges.proofs.Keys.{same_pair_key, key_first, key_second}
use Rattle.edges.proofs.Rows.{Row}

abbrev pub unpacked : ℕ → ℕ × ℕ
unpacked key = (pair_first key, pair_second key)

abbrev pub key_of : ℕ × ℕ → ℕ
key_of r = r.0

module _ (S : List (ℕ × ℕ)) (small : (i : ℕ) → Small (get_or S i (0, 0))) where
  abbrev side : ℕ × ℕ → ℕ × ℕ
  side = side_of S

  pub same_key_lem : (x y : ℕ × ℕ) → Row S small 0 x → Row S small 0 y → same_pair (side x) (side y) ≡ eqb x.0 y.0
  same_key_lem x y u v = same_pair_key (side x) (side y) (small x.1) (small y.1) ∙ (λ t. eqb (sym u.key t) (sym v.key t))

  row_pair : (x : ℕ × ℕ) → Row S small 0 x → sorted_pair (side x) ≡ unpacked x.0
  row_pair x u =
      (λ t. (sym (key_first (side x) (small x.1)) t, sym (key_second (side x) (small x.1)) t)) ∙ ap unpacked (sym u.key)

  some_key : (x : ℕ × ℕ) (seen : List (ℕ × ℕ)) → Row S small 0 x → Each (Row S small 0) seen → some (same_pair (side x)) (map side seen) ≡ some (eqb x.0) (map key_of seen)
  some_key x [] u v = refl
  some_key x (y ∷ seen) u v = λ t. same_key_lem x y u v.0 t || some_key x seen u v.1 t

  from_seen : (l seen : List (ℕ × ℕ)) → Each (Row S small 0) l → Each (Row S small 0) seen
      → map sorted_pair (distinct_from same_pair (map side seen) (map side l)) ≡ map unpacked (distinct_from eqb (map key_of seen) (map key_of l))
  unfolding distinct_from
  from_seen [] seen u v = refl
  from_seen (x ∷ l) seen u v =
      go (some (same_pair (side x)) (map side seen)) (some (eqb x.0) (map key_of seen)) (some_key x seen u.0 v) (from_seen l (x ∷ seen) u.1 (u.0, v))
    where
      a : List (ℕ × ℕ)
      a = distinct_from same_pair (map side (x ∷ seen)) (map side l)

      b : List ℕ
      b = distinct_from eqb (map key_of (x ∷ seen)) (map key_of l)

      either : (c : Bool) → map sorted_pair a ≡ map unpacked b → map sorted_pair (cond c a (side x ∷ a)) ≡ map unpacked (cond c b (x.0 ∷ b))
      either true ih = ih
      either false ih = λ t. row_pair x u.0 t ∷ ih t

      go : (c d : Bool) → c ≡ d → map sorted_pair a ≡ map unpacked b → map sorted_pair (cond c a (side x ∷ a)) ≡ map unpacked (cond d b (x.0 ∷ b))
      go c d e ih = either c ih ∙ ap (λ (d : Bool). map unpacked (cond d b (x.0 ∷ b))) e

  pub distinct_pairs : (l : List (ℕ × ℕ)) → Each (Row S small 0) l → map sorted_pair (distinct same_pair (map side l)) ≡ map unpacked (distinct eqb (map key_of l))
  distinct_pairs l u = from_seen l [] u tt
