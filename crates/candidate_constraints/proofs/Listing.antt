-- `list_pairs`, `face_constraints` and `all_constraints`: the steps put together. Assumes nothing.
--   shown1, shown2, roomy2, placed2, held2, few2, pairs_listed   `list_pairs`
--   pairs_low                                the places of all pairs are below 2^21
--   face_none, sorted_roomy, face_listed     `face_constraints`
--   Faced, faced_start, -turn, -end          `all_constraints`
use Prim.Native.Nat.{ℕ, ◌+◌, ◌*◌, ◌≤◌, ◌<◌}
use mathlib.Core.Bool.{Bool, cond}
use mathlib.Core.List.{List, [], ◌∷◌, ◌++◌, map, flat_map, append-nil, map-append}
use mathlib.Core.Path.{◌≡◌, refl, sym, ap, ◌∙◌}
use native.Mathlib.Nat.{mul-le-mul_right}
use native.Mathlib.Omega.{arith}
use borrow.Author.Tests.{lt-ltb, le-ltb}
use lib.Dec.{eqb}
use lib.ListN.{length, get_or}
use lib.Ieee.{Float}
use Rattle.lists.specs.Lists.{keep, place, sort_by, distinct, up_from, up_to}
use Rattle.lists.specs.Regions.{view}
use Rattle.lists.proofs.Mapped.{Each}
use Rattle.lists.proofs.Members.{place_le}
use Rattle.lists.proofs.Sequences.{flat_up, each_append, each_flat, each_any, each_mapped}
use Rattle.records.specs.Buffer.{records_at}
use Rattle.records.specs.Runs.{runs, first_key}
use Rattle.records.specs.Records.{sorted}
use Rattle.sorting.proofs.Sorting.{SortedPart}
use Rattle.geometry.specs.declared.aabb.AABB.{AABB}
use Rattle.box_faces.specs.Sides.{face_sides}
use Rattle.edges.specs.Edges.{sorted_pair, same_pair, pair_before}
use Rattle.candidate_pool.specs.OpenEdges.{OpenEdge}
use Rattle.candidate_pool.specs.Offsets.{pool_end, places_at, side_at, pairs_at, constraints_at, open_edges_at, room_end}
use Rattle.candidate_pool.specs.Pool.{Pool, face_list}
use Rattle.candidate_pool.specs.Standing.{pool_at, edges_at, EdgesHeld}
use Rattle.candidate_pool.proofs.Reading.{list_length}
use Rattle.candidate_constraints.specs.Constraints.{Constraint, constraint, consecutive, side_order, edge_places, face_constraints}
use Rattle.candidate_constraints.specs.Steps.{unpacked, Constrained, Kept, Shown, Roomy, Placed, side_places, pair_record, side_pairs, edge_pairs, all_pairs, Pushed, Distinct, FaceListed}
use Rattle.candidate_constraints.proofs.Frames.{kept_same, kept_wider, kept_then, kept_sorted, view_above}
use Rattle.candidate_constraints.proofs.Showing.{pool_same, shown_same, edges_after, held_after}
use Rattle.candidate_constraints.proofs.Noting.{placed_same}
use Rattle.candidate_constraints.proofs.Pairing.{pushed_then, pushed_as}
use Rattle.candidate_constraints.proofs.Siding.{places_low, sorted_records}
use Rattle.candidate_constraints.proofs.Once.{Low, listed_once}

-- ---- list_pairs
module _ (box : AABB) (eps : Float) (n nf k f : ℕ) (w w1 : List ℕ) (o : Shown n w) (room : Roomy n nf w) (held : EdgesHeld (pool_at n w) w (open_edges_at n nf) k) (hf : f < 6)
    (hk : k ≤ 3 * nf)
    (k1 : Kept (places_at n) (side_at n) w w1) (noted : Placed n f w1) where
  same1 : pool_at n w1 ≡ pool_at n w
  same1 = pool_same n w w1 o k1.long k1.low

  pub shown1 : Shown n w1
  shown1 = shown_same n w w1 o k1.long k1.low

  module _ (w2 : List ℕ) (c : ℕ) (p : Pushed n f (side_at n) (4 * n) (side_pairs box eps (pool_at n w1) f) 0 c w1 w2) where
    low2 : (x : ℕ) → x < pool_end n → get_or w2 x 0 ≡ get_or w1 x 0
    low2 x h = p.kept.low x (omega arith)

    same2 : pool_at n w2 ≡ pool_at n w1
    same2 = pool_same n w1 w2 shown1 p.kept.long low2

    pub shown2 : Shown n w2
    shown2 = shown_same n w1 w2 shown1 p.kept.long low2

    pub roomy2 : Roomy n nf w2
    roomy2 = record { small = room.small; facets = room.facets; room = omega (arith, room.room, p.kept.long, k1.long) }

    pub placed2 : Placed n f w2
    placed2 = placed_same n f w1 shown1 hf w2 noted p.kept.long p.kept.low

    high2 : (x : ℕ) → open_edges_at n nf ≤ x → get_or w2 x 0 ≡ get_or w x 0
    high2 x h = p.kept.high x (omega (arith, p.few)) ∙ k1.high x (omega arith)

    pub held2 : EdgesHeld (pool_at n w2) w2 (open_edges_at n nf) k
    held2 = held_after w w2 (open_edges_at n nf) k high2 (pool_at n w) (pool_at n w2) (same2 ∙ same1) held

    pub few2 : c ≤ 4 * n
    few2 = omega (arith, p.few)

    pub pairs_listed : (w3 : List ℕ) (r : ℕ) → Pushed n f (pairs_at n + 2 * c) k (edge_pairs (pool_at n w2) f (edges_at w2 (open_edges_at n nf) k)) c r w2 w3
        → Pushed n f (places_at n) (4 * n + 3 * nf) (all_pairs box eps (pool_at n w) f (edges_at w (open_edges_at n nf) k)) 0 r w w3
    unfolding records_at
    pairs_listed w3 r q =
        let E = open_edges_at n nf in
        let l = side_pairs box eps (pool_at n w1) f ++ edge_pairs (pool_at n w2) f (edges_at w2 E k) in
        let t = pushed_then n f (side_at n) (pairs_at n + 2 * c) (4 * n) k (side_pairs box eps (pool_at n w1) f) (edge_pairs (pool_at n w2) f (edges_at w2 E k)) 0 c r w1 w2 w3
        (omega arith) p q in
        pushed_as n f (places_at n) (4 * n + k) (4 * n + 3 * nf) l (all_pairs box eps (pool_at n w) f (edges_at w E k)) 0 r w w3 (omega arith)
        (λ i. side_pairs box eps (same1 i) f ++ edge_pairs ((same2 ∙ same1) i) f (edges_after w w2 E k high2 i))
        (record {
          few = t.few;
          records = t.records;
          kept =
              kept_then (places_at n) (pairs_at n + 2 * r) w w1 w3
              (kept_wider (places_at n) (side_at n) (places_at n) (pairs_at n + 2 * r) w w1 k1 (omega arith) (omega arith))
              (kept_wider (side_at n) (pairs_at n + 2 * r) (places_at n) (pairs_at n + 2 * r) w1 w3 t.kept (omega arith) (omega arith));
        })

-- ---- places of pairs
neighbours_low : (b : ℕ) → b ≤ 2097152 → (l : List ℕ) → Each (λ x. x < b) l → Each Low (consecutive l)
unfolding consecutive
neighbours_low b h [] e = tt
neighbours_low b h (x ∷ []) e = tt
neighbours_low b h (x ∷ y ∷ l) e = ((omega (arith, e.0), omega (arith, e.1.0)), neighbours_low b h (y ∷ l) e.1)

pub pairs_low : (box : AABB) (eps : Float) (p : Pool) (f : ℕ) (edges : List OpenEdge) → length (face_list p f) < 2097152 → Each Low (all_pairs box eps p f edges)
pairs_low box eps p f edges h =
    each_append Low (side_pairs box eps p f) (edge_pairs p f edges)
    (each_flat Low (λ s. consecutive (side_places eps p f s)) (face_sides box f)
    (λ s. neighbours_low (length (face_list p f)) (omega arith) (side_places eps p f s) (places_low eps p f s)))
    (each_mapped Low (λ e. (place (eqb e.from) (face_list p f), place (eqb e.to) (face_list p f))) (keep (λ e. eqb e.face f) edges)
    (each_any (λ (e : OpenEdge). Low (place (eqb e.from) (face_list p f), place (eqb e.to) (face_list p f))) (keep (λ e. eqb e.face f) edges)
    (λ e. (omega (arith, place_le (eqb e.from) (face_list p f)), omega (arith, place_le (eqb e.to) (face_list p f))))))

-- ---- face_constraints
module _ (box : AABB) (eps : Float) (n nf k f total : ℕ) (w : List ℕ) (o : Shown n w) (room : Roomy n nf w) (hf : f < 6) (ht : total + (4 * n + 3 * nf) ≤ 24 * n + 18 * nf) where
  abbrev E : List OpenEdge
  E = edges_at w (open_edges_at n nf) k

  pub face_none : get_or w f 0 < 3 → FaceListed box eps n nf k f total total w w
  unfolding face_constraints
  face_none h =
      record {
        few = omega arith;
        listed =
            sym (ap (λ (b : Bool). map unpacked (view w (constraints_at n nf) total)
            ++ cond b [] (map (λ q. constraint f (sorted_pair q).0 (sorted_pair q).1) (distinct same_pair (sort_by pair_before
            (flat_map (λ s. consecutive (side_order box eps E (pool_at n w) f s)) (face_sides box f) ++ edge_places box eps E (pool_at n w) f)))))
            (lt-ltb (length (face_list (pool_at n w) f)) 3 (omega (arith, list_length n w f o.size (o.lengths f hf) hf))) ∙ append-nil
            (map unpacked (view w (constraints_at n nf) total)));
        kept = kept_same (places_at n) (open_edges_at n nf) w;
      }

  as_defined : 3 ≤ get_or w f 0 → map (λ q. constraint f (sorted_pair q).0 (sorted_pair q).1) (distinct same_pair (sort_by pair_before (all_pairs box eps (pool_at n w) f E))) ≡
      face_constraints box eps E (pool_at n w) f
  unfolding face_constraints side_order side_places edge_places
  as_defined h =
      ap (λ (b : Bool). cond b [] (map (λ q. constraint f (sorted_pair q).0 (sorted_pair q).1) (distinct same_pair (sort_by pair_before (all_pairs box eps (pool_at n w) f E)))))
      (sym (le-ltb (length (face_list (pool_at n w) f)) 3 (omega (arith, list_length n w f o.size (o.lengths f hf) hf))))

  module _ (w1 w2 w3 : List ℕ) (c r at : ℕ) (p : Pushed n f (places_at n) (4 * n + 3 * nf) (all_pairs box eps (pool_at n w) f E) 0 c w w1) (ea : at ≡ pairs_at n)
      (s : SortedPart w1 w2 at c) where
    pub sorted_roomy : Roomy n nf w2
    sorted_roomy = record { small = room.small; facets = room.facets; room = omega (arith, room.room, p.kept.long, s.same) }

    kept1 : Kept (places_at n) (constraints_at n nf) w w2
    kept1 =
        kept_then (places_at n) (constraints_at n nf) w w1 w2
        (kept_wider (places_at n) (pairs_at n + 2 * c) (places_at n) (constraints_at n nf) w w1 p.kept (omega arith) (omega (arith, p.few)))
        (kept_wider at (at + 4 * c) (places_at n) (constraints_at n nf) w1 w2 (kept_sorted at c w1 w2 s) (omega arith) (omega (arith, p.few)))

    in_order_lem : records_at w2 (pairs_at n) c ≡ sorted (map (pair_record f) (all_pairs box eps (pool_at n w) f E))
    unfolding records_at
    in_order_lem = sorted_records w1 w2 at (pairs_at n) c ea (omega (arith, p.few, p.kept.long, room.room)) s ∙ ap sorted p.records

    pub face_listed : 3 ≤ get_or w f 0 → Distinct n nf c total r w2 w3 → FaceListed box eps n nf k f total r w w3
    face_listed h d =
        let C = constraints_at n nf in
        record {
          few = omega (arith, d.few, p.few);
          listed =
              ap (map unpacked) (d.listed ∙ (λ t. view_above (places_at n) C C total w w2 kept1 (omega arith) (omega (arith, room.room)) t ++ map first_key (runs (in_order_lem t))))
              ∙ map-append unpacked (view w C total) (map first_key (runs (sorted (map (pair_record f) (all_pairs box eps (pool_at n w) f E)))))
              ∙ ap (λ (l : List Constraint). map unpacked (view w C total) ++ l)
              (listed_once f (all_pairs box eps (pool_at n w) f E) (pairs_low box eps (pool_at n w) f E
              (omega (arith, list_length n w f o.size (o.lengths f hf) hf, o.lengths f hf, room.small))) ∙ as_defined h);
          kept =
              kept_then (places_at n) (open_edges_at n nf) w w2 w3
              (kept_wider (places_at n) C (places_at n) (open_edges_at n nf) w w2 kept1 (omega arith) (omega arith))
              (kept_wider C (open_edges_at n nf) (places_at n) (open_edges_at n nf) w2 w3 d.kept (omega arith) (omega arith));
        }

-- ---- all_constraints
module _ (box : AABB) (eps : Float) (n nf k : ℕ) (w₀ : List ℕ) where
  abbrev pub of_face : ℕ → List Constraint
  of_face f = face_constraints box eps (edges_at w₀ (open_edges_at n nf) k) (pool_at n w₀) f

  pub record Faced (w : List ℕ) (total f : ℕ) : Type 0 where
    pub within : f ≤ 6
    pub few : total ≤ f * (4 * n + 3 * nf)
    pub kept : Kept (places_at n) (open_edges_at n nf) w₀ w
    pub listed : map unpacked (view w (constraints_at n nf) total) ≡ flat_map of_face (up_to f)

  pub faced_start : Faced w₀ 0 0
  unfolding flat_map up_from
  faced_start = record { within = omega arith; few = omega arith; kept = kept_same (places_at n) (open_edges_at n nf) w₀; listed = refl }

  module _ (o : Shown n w₀) (held : EdgesHeld (pool_at n w₀) w₀ (open_edges_at n nf) k) (small : n < 2097152) (facets : nf < 268435456) (room : room_end n nf ≤ length w₀)
      (w : List ℕ) (total f : ℕ) (g : Faced w total f) where
    same : pool_at n w ≡ pool_at n w₀
    same = pool_same n w₀ w o g.kept.long g.kept.low

    pub faced_shown : Shown n w
    faced_shown = shown_same n w₀ w o g.kept.long g.kept.low

    pub faced_roomy : Roomy n nf w
    faced_roomy = record { small = small; facets = facets; room = omega (arith, g.kept.long) }

    pub faced_held : EdgesHeld (pool_at n w) w (open_edges_at n nf) k
    faced_held = held_after w₀ w (open_edges_at n nf) k g.kept.high (pool_at n w₀) (pool_at n w) same held

    pub faced_few : f < 6 → total + (4 * n + 3 * nf) ≤ 24 * n + 18 * nf
    faced_few h =
        let l : f ≤ 5 = omega arith in
        omega (arith, g.few, mul-le-mul_right (4 * n + 3 * nf) l)

    pub faced_turn : (w' : List ℕ) (r : ℕ) → f < 6 → FaceListed box eps n nf k f total r w w' → Faced w' r (f + 1)
    faced_turn w' r h a =
        record {
          within = omega arith;
          few = omega (arith, g.few, a.few);
          kept = kept_then (places_at n) (open_edges_at n nf) w₀ w w' g.kept a.kept;
          listed =
              a.listed ∙ (λ t. g.listed t ++ face_constraints box eps (edges_after w₀ w (open_edges_at n nf) k g.kept.high t) (same t) f) ∙ sym (flat_up of_face f);
        }

    pub faced_end : 6 ≤ f → Constrained box eps n nf k total w₀ w
    unfolding up_from
    faced_end h =
        record {
          listed = g.listed ∙ ap (λ (j : ℕ). flat_map of_face (up_to j)) (six f g.within h);
          few = omega (arith, g.few, mul-le-mul_right (4 * n + 3 * nf) g.within);
          long = g.kept.long;
          low = g.kept.low;
          high = g.kept.high;
        }
      where
        six : (f : ℕ) → f ≤ 6 → 6 ≤ f → f ≡ 6
        six f a b = omega arith
