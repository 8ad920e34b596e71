-- `push_side` and `push_sides`: the records of a side, their sort, their neighbours; and the four sides. Assumes nothing.
--   all_low, side_low, places_low        places are below the number of candidates
--   sorted_records                       records in a lent part that was sorted
--   side_few, side_long, side_pushed     `push_side`
--   Siding, siding_start, -turn, -end    `push_sides`
use Prim.Native.Nat.{ℕ, zero, suc, ◌+◌, ◌*◌, ◌≤◌, ◌<◌}
use mathlib.Core.List.{List, [], ◌∷◌, ◌++◌, map, flat_map, append-nil}
use mathlib.Core.Path.{◌≡◌, refl, sym, ap, subst, ◌∙◌}
use native.Mathlib.Nat.{mul-le-mul_right}
use native.Mathlib.Omega.{arith}
use lib.ListN.{length, get_or, take}
use lib.Seq.{take_all, take-suc}
use lib.Ieee.{Float}
use Rattle.lists.specs.Lists.{sort_by, up_from}
use Rattle.lists.proofs.Mapped.{Each, each_at, each_sort_by}
use Rattle.lists.proofs.Sequences.{each_mapped, flat_map_append}
use Rattle.records.specs.Buffer.{records_at}
use Rattle.records.specs.Records.{record_before, sorted}
use Rattle.records.proofs.Records.{length_records_at, records_at_get, records_at_take}
use Rattle.sorting.proofs.Sorting.{SortedPart}
use Rattle.geometry.specs.declared.aabb.AABB.{AABB}
use Rattle.std.specs.Prelude.{Option, Some, None}
use Rattle.box_faces.specs.declared.uv.Side.{Side}
use Rattle.box_faces.specs.Faces.{project}
use Rattle.box_faces.specs.Sides.{face_sides, on_side}
use Rattle.candidate_pool.specs.Offsets.{side_at, pairs_at}
use Rattle.candidate_pool.specs.Pool.{Pool, point_of, face_list}
use Rattle.candidate_pool.specs.Standing.{pool_at}
use Rattle.candidate_pool.proofs.Reading.{list_length}
use Rattle.candidate_constraints.specs.Constraints.{consecutive, standing}
use Rattle.candidate_constraints.specs.Steps.{Kept, Shown, stands, on_side_all, by_fraction, side_places, keyed, LowPlaces, pair_record, Collected, Pushed}
use Rattle.candidate_constraints.proofs.Frames.{kept_wider, kept_then, kept_sorted, records_above}
use Rattle.candidate_constraints.proofs.Showing.{pool_same, shown_same}
use Rattle.candidate_constraints.proofs.Along.{sorted_places}
use Rattle.candidate_constraints.proofs.Pairing.{pushed_none, pushed_then, pushed_as}

-- ---- places are low
module _ (eps : Float) (p : Pool) (f : ℕ) (s : Side) where
  low_from : (k n b : ℕ) → k + n ≤ b → Each (λ (x : Float × ℕ). x.1 < b) (flat_map (stands eps p f s) (up_from k n))
  unfolding flat_map up_from
  low_from k zero b h = tt
  low_from k (suc n) b h = go (on_side eps s (project f (point_of p (get_or (face_list p f) k 0)))) (low_from (suc k) n b (omega arith))
    where
      go : (t : Option Float) → Each (λ (x : Float × ℕ). x.1 < b) (flat_map (stands eps p f s) (up_from (suc k) n))
          → Each (λ (x : Float × ℕ). x.1 < b) (standing k t ++ flat_map (stands eps p f s) (up_from (suc k) n))
      go (Some x) g = (omega arith, g)
      go None g = g

  pub all_low : Each (λ (x : Float × ℕ). x.1 < length (face_list p f)) (on_side_all eps p f s)
  all_low = low_from 0 (length (face_list p f)) (length (face_list p f)) (omega arith)

  pub places_low : Each (λ x. x < length (face_list p f)) (side_places eps p f s)
  unfolding side_places
  places_low =
      each_mapped (λ x. x < length (face_list p f)) (λ (x : Float × ℕ). x.1) (sort_by by_fraction (on_side_all eps p f s))
      (each_sort_by by_fraction (λ (x : Float × ℕ). x.1 < length (face_list p f)) (on_side_all eps p f s) all_low)

-- ---- push_side
pub sorted_records : (w w' : List ℕ) (at a m : ℕ) → at ≡ a → a + 4 * m ≤ length w → SortedPart w w' at m → records_at w' a m ≡ sorted (records_at w a m)
sorted_records w w' at a m e room p =
    let q : SortedPart w w' a m = subst (λ (k : ℕ). SortedPart w w' k m) e p in
    sym (records_at_take w' a m (omega (arith, q.same))) ∙ q.result ∙ ap sorted (records_at_take w a m (omega arith))

module _ (eps : Float) (n f : ℕ) (s : Side) (count m : ℕ) (w w1 w2 : List ℕ) (o : Shown n w) (hf : f < 6) (hn : n < 2097152) (hc : count ≤ 3 * n)
    (room : pairs_at n + 16 * n ≤ length w)
    (g : Collected eps n f s m w w1) (at : ℕ) (ea : at ≡ side_at n) (p : SortedPart w1 w2 at m) where
  pub side_few : m ≤ n
  side_few = omega (arith, g.few, o.lengths f hf)

  in_order_lem : records_at w2 (side_at n) m ≡ sorted (map keyed (on_side_all eps (pool_at n w) f s))
  in_order_lem = sorted_records w1 w2 at (side_at n) m ea (omega (arith, side_few, g.kept.long)) p ∙ ap sorted g.records

  pub side_low : LowPlaces n m w2
  side_low i h =
      let e = ap (λ (r : ℕ × ℕ). r.1) (records_at_get w2 (side_at n) m i h) in
      let l = each_at (λ (r : ℕ × ℕ). r.1 < length (face_list (pool_at n w) f)) (0, 0) (records_at w2 (side_at n) m) i
      (subst (Each (λ (r : ℕ × ℕ). r.1 < length (face_list (pool_at n w) f))) (sym in_order_lem)
      (each_sort_by record_before (λ (r : ℕ × ℕ). r.1 < length (face_list (pool_at n w) f)) (map keyed (on_side_all eps (pool_at n w) f s))
      (each_mapped (λ (r : ℕ × ℕ). r.1 < length (face_list (pool_at n w) f)) keyed (on_side_all eps (pool_at n w) f s) (all_low eps (pool_at n w) f s))))
      (omega (arith, length_records_at w2 (side_at n) m)) in
      omega (arith, e, l, list_length n w f o.size (o.lengths f hf) hf, o.lengths f hf)

  kept_side : Kept (side_at n) (pairs_at n) w w2
  kept_side =
      kept_then (side_at n) (pairs_at n) w w1 w2 (kept_wider (side_at n) (side_at n + 2 * n) (side_at n) (pairs_at n) w w1 g.kept (omega arith) (omega arith))
      (kept_wider at (at + 4 * m) (side_at n) (pairs_at n) w1 w2 (kept_sorted at m w1 w2 p) (omega arith) (omega (arith, side_few)))

  pub side_long : length w2 ≡ length w
  side_long = kept_side.long

  pub side_pushed : (w3 : List ℕ) (r : ℕ) → Pushed n f (pairs_at n + 2 * count) m (consecutive (map (λ x. x.1) (records_at w2 (side_at n) m))) count r w2 w3
      → Pushed n f (side_at n) n (consecutive (side_places eps (pool_at n w) f s)) count r w w3
  side_pushed w3 r q =
      let l = consecutive (map (λ (x : ℕ × ℕ). x.1) (records_at w2 (side_at n) m)) in
      pushed_as n f (side_at n) m n l (consecutive (side_places eps (pool_at n w) f s)) count r w w3 side_few
      (ap consecutive (ap (map (λ (x : ℕ × ℕ). x.1)) in_order_lem ∙ sorted_places eps (pool_at n w) f s))
      (record {
        few = q.few;
        records = q.records ∙ ap (λ (x : List (ℕ × ℕ)). x ++ map (pair_record f) l) (records_above (side_at n) (pairs_at n) (pairs_at n) count w w2 kept_side (omega arith));
        kept =
            kept_then (side_at n) (pairs_at n + 2 * r) w w2 w3
            (kept_wider (side_at n) (pairs_at n) (side_at n) (pairs_at n + 2 * r) w w2 kept_side (omega arith) (omega arith))
            (kept_wider (pairs_at n + 2 * count) (pairs_at n + 2 * r) (side_at n) (pairs_at n + 2 * r) w2 w3 q.kept (omega arith) (omega arith));
      })

-- ---- push_sides
four : (box : AABB) (f : ℕ) → length (face_sides box f) ≡ 4
unfolding face_sides
four box f = refl

module _ (box : AABB) (eps : Float) (n f : ℕ) (w₀ : List ℕ) where
  abbrev pub near : Side → List (ℕ × ℕ)
  near s = consecutive (side_places eps (pool_at n w₀) f s)

  pub record Siding (w : List ℕ) (c k : ℕ) : Type 0 where
    pub within : k ≤ 4
    pub pushed : Pushed n f (side_at n) (k * n) (flat_map near (take k (face_sides box f))) 0 c w₀ w

  pub siding_start : Siding w₀ 0 0
  unfolding flat_map
  siding_start = record { within = omega arith; pushed = pushed_as n f (side_at n) 0 (0 * n) [] [] 0 0 w₀ w₀ (omega arith) refl (pushed_none n f (side_at n) 0 w₀) }

  module _ (o : Shown n w₀) (w : List ℕ) (c k : ℕ) (g : Siding w c k) where
    pub siding_few : k < 4 → c ≤ 3 * n
    siding_few h =
        let l : k ≤ 3 = omega arith in
        omega (arith, g.pushed.few, mul-le-mul_right n l)

    same : pool_at n w ≡ pool_at n w₀
    same = pool_same n w₀ w o g.pushed.kept.long (λ x h. g.pushed.kept.low x (omega arith))

    pub siding_shown : Shown n w
    siding_shown = shown_same n w₀ w o g.pushed.kept.long (λ x h. g.pushed.kept.low x (omega arith))

    pub siding_turn : (d s : Side) (r : ℕ) (w' : List ℕ) → k < 4 → s ≡ get_or (face_sides box f) k d
        → Pushed n f (side_at n) n (consecutive (side_places eps (pool_at n w) f s)) c r w w' → Siding w' r (k + 1)
    unfolding flat_map
    siding_turn d s r w' h e p =
        let S = face_sides box f in
        record {
          within = omega arith;
          pushed =
              pushed_as n f (side_at n) (k * n + n) ((k + 1) * n) (flat_map near (take k S) ++ consecutive (side_places eps (pool_at n w) f s)) (flat_map near (take (k + 1) S)) 0 r w₀ w'
              (omega arith)
              ((λ t. flat_map near (take k S) ++ consecutive (side_places eps (same t) f (e t)))
              ∙ ap (λ (l : List (ℕ × ℕ)). flat_map near (take k S) ++ l) (sym (append-nil (near (get_or S k d))))
              ∙ sym (flat_map_append near (take k S) (get_or S k d ∷ [])) ∙ ap (flat_map near) (sym (take-suc S k d (omega (arith, four box f)))) ∙ ap
              (λ (j : ℕ). flat_map near (take j S)) (one k))
              (pushed_then n f (side_at n) (side_at n) (k * n) n (flat_map near (take k S)) (consecutive (side_places eps (pool_at n w) f s)) 0 c r w₀ w w' (omega arith) g.pushed p);
        }
      where
        one : (k : ℕ) → suc k ≡ k + 1
        one k = omega arith

    pub siding_end : 4 ≤ k → Pushed n f (side_at n) (4 * n) (flat_map near (face_sides box f)) 0 c w₀ w
    siding_end h =
        pushed_as n f (side_at n) (k * n) (4 * n) (flat_map near (take k (face_sides box f))) (flat_map near (face_sides box f)) 0 c w₀ w (mul-le-mul_right n g.within)
        (ap (flat_map near) (take_all k (face_sides box f) (omega (arith, four box f)))) g.pushed
