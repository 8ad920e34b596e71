-- Laws of a loop that stores pairs of words, one behind the other. Assumes nothing.
--   pairs_none, pairs_more     none, and one more
--   pairs_words                all of a list, as words
use Prim.Native.Nat.{ℕ, zero, suc, ◌+◌, ◌*◌, ◌≤◌, ◌<◌}
use native.Mathlib.Omega.{arith}
use native.Mathlib.Decide.{ℕ_discrete}
use mathlib.Core.Path.{◌≡◌, refl, sym, ap, ◌∙◌}
use mathlib.Core.List.{List, [], ◌∷◌, ◌++◌, map, flat_map}
use lib.ListN.{get_or, set, length, take, length-set}
use lib.Seq.{get_or-set_same, get_or-set_other, take-suc}
use Rattle.lists.specs.Lists.{up_from, up_to}
use Rattle.lists.proofs.Sequences.{flat_map_lem, flat_up, map_below}
use Rattle.edges.specs.Edges.{pair_words}
use Rattle.records.specs.Buffer.{put_record}
use Rattle.boundary_groups.specs.Staged.{pair_at, PairsPut}

pub pairs_none : (f : ℕ → ℕ × ℕ) (w : List ℕ) → PairsPut f w 0
pairs_none f w = record { first = λ j h. absurd (omega arith); second = λ j h. absurd (omega arith) }

pub pairs_more : (f : ℕ → ℕ × ℕ) (v : List ℕ) (i : ℕ) (r : ℕ × ℕ) → PairsPut f v i → 2 * i + 1 < length v → r.0 ≡ (f i).0 → r.1 ≡ (f i).1
    → PairsPut f (put_record v (2 * i) r) (i + 1)
pairs_more f v i r P room d e = record { first = λ j h. at_first j h (ℕ_discrete j i); second = λ j h. at_second j h (ℕ_discrete j i) }
  where
    u : List ℕ
    u = put_record v (2 * i) r

    other : (z : ℕ) → (z ≡ 2 * i → ⊥) → (z ≡ 2 * i + 1 → ⊥) → get_or u z 0 ≡ get_or v z 0
    other z n l = get_or-set_other (set v (2 * i) r.0) (2 * i + 1) z r.1 0 l ∙ get_or-set_other v (2 * i) z r.0 0 n

    before : (j : ℕ) → j < i + 1 → (j ≡ i → ⊥) → j < i
    before j h n = omega arith

    at_first : (j : ℕ) → j < i + 1 → Dec (j ≡ i) → get_or u (2 * j) 0 ≡ (f j).0
    at_first j h (yes q) =
        rw q (get_or-set_other (set v (2 * i) r.0) (2 * i + 1) (2 * i) r.1 0 (λ z. omega arith) ∙ get_or-set_same v (2 * i) r.0 0 (omega arith) ∙ d)
    at_first j h (no n) = other (2 * j) (λ z. n (omega arith)) (λ z. omega arith) ∙ P.first j (before j h n)

    at_second : (j : ℕ) → j < i + 1 → Dec (j ≡ i) → get_or u (2 * j + 1) 0 ≡ (f j).1
    at_second j h (yes q) = rw q (get_or-set_same (set v (2 * i) r.0) (2 * i + 1) r.1 0 (omega (arith, length-set v (2 * i) r.0)) ∙ e)
    at_second j h (no n) = other (2 * j + 1) (λ z. omega arith) (λ z. n (omega arith)) ∙ P.second j (before j h n)

-- ---- words as pairs

abbrev two : ℕ × ℕ → List ℕ
two e = e.0 ∷ e.1 ∷ []

pub front_pairs : (w : List ℕ) (k : ℕ) → 2 * k ≤ length w → take (2 * k) w ≡ pair_words (map (pair_at w) (up_to k))
unfolding pair_words flat_map up_from
front_pairs w k h = flat k h ∙ sym (flat_map_lem two (pair_at w) (up_to k))
  where
    append_assoc : (a b d : List ℕ) → (a ++ b) ++ d ≡ a ++ (b ++ d)
    append_assoc [] b d = refl
    append_assoc (z ∷ a) b d = ap (λ (l : List ℕ). z ∷ l) (append_assoc a b d)

    twice : (k : ℕ) → 2 * suc k ≡ suc (suc (2 * k))
    twice k = omega arith

    next : (k : ℕ) → suc (2 * k) ≡ 2 * k + 1
    next k = omega arith

    last : (k : ℕ) → k + 1 ≡ suc k
    last k = omega arith

    flat : (k : ℕ) → 2 * k ≤ length w → take (2 * k) w ≡ flat_map (λ i. two (pair_at w i)) (up_to k)
    flat zero h = refl
    flat (suc k) h =
        ap (λ (x : ℕ). take x w) (twice k)
        ∙ take-suc w (suc (2 * k)) 0 (omega arith)
        ∙ ap (λ (l : List ℕ). l ++ (get_or w (suc (2 * k)) 0 ∷ [])) (take-suc w (2 * k) 0 (omega arith) ∙ ap (λ (l : List ℕ). l ++ (get_or w (2 * k) 0 ∷ [])) (flat k (omega arith)))
        ∙ append_assoc (flat_map (λ i. two (pair_at w i)) (up_to k)) (get_or w (2 * k) 0 ∷ []) (get_or w (suc (2 * k)) 0 ∷ [])
        ∙ ap (λ (x : ℕ). flat_map (λ i. two (pair_at w i)) (up_to k) ++ (get_or w (2 * k) 0 ∷ get_or w x 0 ∷ [])) (next k)
        ∙ sym (flat_up (λ i. two (pair_at w i)) k)
        ∙ ap (λ (n : ℕ). flat_map (λ i. two (pair_at w i)) (up_to n)) (last k)

pub pairs_words : (f : ℕ → ℕ × ℕ) (w : List ℕ) (k : ℕ) → 2 * k ≤ length w → PairsPut f w k → take (2 * k) w ≡ pair_words (map f (up_to k))
pairs_words f w k h P = front_pairs w k h ∙ ap pair_words (map_below (pair_at w) f k (λ i l t. (P.first i l t, P.second i l t)))
