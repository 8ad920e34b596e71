-- `note_places`: what its loop keeps, as it starts, one turn, and its end; and that later stores leave the places. Assumes nothing.
--   Noting, noting_start, noting_named, noting_end; noted_low   the loop
--   member_low, place_low, noted_place, placed_same          after it
use Prim.Native.Nat.{ℕ, ◌+◌, ◌≤◌, ◌<◌}
use mathlib.Core.Bool.{true}
use mathlib.Core.List.{List}
use mathlib.Core.Path.{◌≡◌, sym, ap, subst, ◌∙◌}
use native.Mathlib.Decide.{ℕ_discrete}
use native.Mathlib.Omega.{arith}
use lib.Dec.{eqb}
use lib.ListN.{length, get_or, set}
use lib.Seq.{get_or-set_same, get_or-set_other}
use Rattle.lists.specs.Lists.{has, place}
use Rattle.lists.proofs.Sequences.{has_place, place_has}
use Rattle.candidate_pool.specs.Offsets.{list_at, places_at, side_at}
use Rattle.candidate_pool.specs.Pool.{Pool, face_list}
use Rattle.candidate_pool.specs.Standing.{pool_at}
use Rattle.candidate_pool.proofs.Reading.{pool_count, list_in, list_at_lem, list_length}
use Rattle.candidate_constraints.specs.Steps.{Kept, Shown, Placed}
use Rattle.candidate_constraints.proofs.Frames.{kept_same, kept_set, kept_then}
use Rattle.candidate_constraints.proofs.Showing.{list_low, pool_same}

module _ (n f : ℕ) (w₀ : List ℕ) where
  abbrev pub id_at : ℕ → ℕ
  id_at j = get_or w₀ (list_at n f + j) 0

  pub record Noting (w : List ℕ) (i : ℕ) : Type 0 where
    pub within : i ≤ get_or w₀ f 0
    pub kept : Kept (places_at n) (side_at n) w₀ w
    pub at : (j : ℕ) → j < i → get_or w (places_at n + id_at j) 0 ≡ j

  pub noting_start : Noting w₀ 0
  noting_start = record { within = omega arith; kept = kept_same (places_at n) (side_at n) w₀; at = λ j h. absurd (omega arith) }

  module _ (s : Shown n w₀) (hf : f < 6) (room : side_at n ≤ length w₀) (w : List ℕ) (i : ℕ) (o : Noting w i) where
    -- candidate i of the list, as the loop reads it
    pub noted_id : i < get_or w₀ f 0 → get_or w (list_at n f + i) 0 ≡ id_at i
    noted_id h = o.kept.low (list_at n f + i) (omega (arith, s.lengths f hf, list_in n f hf))

    pub noted_low : i < get_or w₀ f 0 → get_or w (list_at n f + i) 0 < n
    noted_low h = omega (arith, noted_id h, list_low n w₀ s f hf i h, s.few)

    apart : (j k : ℕ) → j < k → k < get_or w₀ f 0 → id_at j ≡ id_at k → ⊥
    apart j k h g e =
        s.tidy.once f j k hf h (omega (arith, list_length n w₀ f s.size (s.lengths f hf) hf)) (list_at_lem n w₀ f j hf (omega arith) ∙ e ∙ sym (list_at_lem n w₀ f k hf g))

    pub noting_turn : i < get_or w₀ f 0 → Noting (set w (places_at n + get_or w (list_at n f + i) 0) i) (i + 1)
    noting_turn h =
        subst (λ (x : ℕ). Noting (set w (places_at n + x) i) (i + 1)) (sym (noted_id h))
        (record {
          within = omega arith;
          kept = kept_then (places_at n) (side_at n) w₀ w (set w (places_at n + id_at i) i) o.kept
              (kept_set (places_at n) (side_at n) (places_at n + id_at i) i w (omega arith) (omega (arith, noted_id h, noted_low h)));
          at = λ j g. each j g (ℕ_discrete j i);
        })
      where
        inside : places_at n + id_at i < length w
        inside = omega (arith, noted_id h, noted_low h, o.kept.long)

        each : (j : ℕ) → j < i + 1 → Dec (j ≡ i) → get_or (set w (places_at n + id_at i) i) (places_at n + id_at j) 0 ≡ j
        each j g (yes e) = ap (λ (k : ℕ). get_or (set w (places_at n + id_at i) i) (places_at n + id_at k) 0) e ∙ get_or-set_same w (places_at n + id_at i) i 0 inside ∙ sym e
        each j g (no d) =
            let l : j < i = omega arith in
            get_or-set_other w (places_at n + id_at i) (places_at n + id_at j) i 0 (λ e. apart j i l h (omega arith)) ∙ o.at j l

    -- the same with the names that the code has for two places
    pub noting_named : (list places : ℕ) → list ≡ list_at n f → places ≡ places_at n → i < get_or w₀ f 0 → Noting (set w (places + get_or w (list + i) 0) i) (i + 1)
    noting_named list places a b h = subst (λ (u : List ℕ). Noting u (i + 1)) (λ t. set w (sym b t + get_or w (sym a t + i) 0) i) (noting_turn h)

    pub noting_end : get_or w₀ f 0 ≤ i → Kept (places_at n) (side_at n) w₀ w × Placed n f w
    noting_end h = (o.kept, λ c e. found c e)
      where
        same : pool_at n w ≡ pool_at n w₀
        same = pool_same n w₀ w s o.kept.long o.kept.low

        found : Placed n f w
        found c e =
            let L = face_list (pool_at n w₀) f in
            let e' : has L c ≡ true = ap (λ (p : Pool). has (face_list p f) c) (sym same) ∙ e in
            let q = has_place L c e' in
            let k : place (eqb c) L < get_or w₀ f 0 = omega (arith, list_length n w₀ f s.size (s.lengths f hf) hf) in
            ap (λ (x : ℕ). get_or w (places_at n + x) 0) (sym (place_has L c e') ∙ list_at_lem n w₀ f (place (eqb c) L) hf k)
            ∙ o.at (place (eqb c) L) (omega arith) ∙ ap (λ (p : Pool). place (eqb c) (face_list p f)) (sym same)

-- ---- later
module _ (n f : ℕ) (w : List ℕ) (s : Shown n w) (hf : f < 6) where
  -- a member of a face's list is a candidate's number
  pub member_low : (c : ℕ) → has (face_list (pool_at n w) f) c ≡ true → c < n
  member_low c e =
      let L = face_list (pool_at n w) f in
      omega (arith, place_has L c e, s.tidy.low f (place (eqb c) L) hf (has_place L c e), pool_count n w, s.few)

  pub place_low : (c : ℕ) → has (face_list (pool_at n w) f) c ≡ true → place (eqb c) (face_list (pool_at n w) f) < n
  place_low c e = omega (arith, has_place (face_list (pool_at n w) f) c e, list_length n w f s.size (s.lengths f hf) hf, s.lengths f hf)

  pub noted_place : Placed n f w → (c : ℕ) → has (face_list (pool_at n w) f) c ≡ true → get_or w (places_at n + c) 0 < n
  noted_place p c e = omega (arith, p c e, place_low c e)

  pub placed_same : (w' : List ℕ) → Placed n f w → length w' ≡ length w → ((x : ℕ) → x < side_at n → get_or w' x 0 ≡ get_or w x 0) → Placed n f w'
  placed_same w' p long low c e =
      let same = pool_same n w w' s long (λ x h. low x (omega arith)) in
      let e' : has (face_list (pool_at n w) f) c ≡ true = ap (λ (p : Pool). has (face_list p f) c) (sym same) ∙ e in
      low (places_at n + c) (omega (arith, member_low c e')) ∙ p c e' ∙ ap (λ (p : Pool). place (eqb c) (face_list p f)) (sym same)
