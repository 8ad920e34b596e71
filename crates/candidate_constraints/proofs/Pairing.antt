-- Pairs of places behind others: neighbours along a side, the four sides, open edges. Assumes nothing.
--   pushed_none, pushed_one, pushed_then, pushed_grows     none, one, and some more behind others
--   pushed_as                                              the same pairs by another name
--   neighbours_more; Nearing, nearing_start, -named, -end  `push_neighbours`; near_named   what it reads
--   Edging, edging_start, -next, -end; edge_yes, edge_no, edge_ends, edge_pushed, edge_skipped   `push_open_edges`, `push_open_edge`
use Prim.Native.Nat.{ℕ, zero, suc, ◌+◌, ◌*◌, ◌≤◌, ◌<◌}
use mathlib.Core.Bool.{Bool, true, false, cond, ◌&&◌}
use mathlib.Core.List.{List, [], ◌∷◌, ◌++◌, map, flat_map, append_assoc, append-nil, map-append}
use mathlib.Core.Path.{◌≡◌, refl, sym, ap, subst, ◌∙◌}
use native.Mathlib.Omega.{arith}
use lib.Dec.{eqb}
use lib.ListN.{length, get_or, take, length-append, length-map, get_or-map}
use lib.Seq.{take_all}
use Rattle.lists.specs.Lists.{keep, has, place, up_to, up_from}
use Rattle.lists.proofs.Counts.{keep_append}
use Rattle.lists.proofs.Sequences.{flat_up}
use Rattle.records.specs.Buffer.{put_record, records_at}
use Rattle.records.proofs.Records.{length_records_at, records_at_get, put_same}
use Rattle.geometry.specs.Boxes.{faces}
use Rattle.box_faces.specs.Faces.{has_bit}
use Rattle.candidate_pool.specs.OpenEdges.{OpenEdge, open_edge}
use Rattle.candidate_pool.specs.Offsets.{places_at, side_at, pairs_at, open_edges_at}
use Rattle.candidate_pool.specs.Pool.{Pool, face_list}
use Rattle.candidate_pool.specs.Standing.{faces_in, pool_at, edge_at, edges_at, EdgesHeld}
use Rattle.candidate_pool.proofs.Edges.{held_fewer}
use Rattle.candidate_constraints.specs.Constraints.{consecutive}
use Rattle.candidate_constraints.specs.Steps.{Shown, Roomy, Placed, LowPlaces, pair_record, edge_pairs, Pushed}
use Rattle.candidate_constraints.proofs.Frames.{kept_same, kept_put, kept_wider, kept_then, records_kept}
use Rattle.candidate_constraints.proofs.Showing.{pool_same, shown_same, held_after}
use Rattle.candidate_constraints.proofs.Noting.{placed_same}
use Rattle.candidate_constraints.proofs.Along.{records_add}

-- ---- more pairs
module _ (n f : ℕ) where
  pub pushed_none : (lo c : ℕ) (w : List ℕ) → Pushed n f lo 0 [] c c w w
  pushed_none lo c w =
      record { few = omega arith; records = sym (append-nil (records_at w (pairs_at n) c)); kept = kept_same lo (pairs_at n + 2 * c) w }

  pub pushed_one : (q : ℕ × ℕ) (c : ℕ) (w : List ℕ) → pairs_at n + 2 * c + 1 < length w
      → Pushed n f (pairs_at n + 2 * c) 1 (q ∷ []) c (c + 1) w (put_record w (pairs_at n + 2 * c) (pair_record f q))
  unfolding records_at
  pushed_one q c w h =
      record {
        few = omega arith;
        records =
            records_add w' (pairs_at n) c 1
            ∙ (λ t. records_kept (pairs_at n + 2 * c) (pairs_at n + 2 * c + 2) (pairs_at n) c w w'
            (kept_put (pairs_at n + 2 * c) (pairs_at n + 2 * c + 2) (pairs_at n + 2 * c) (pair_record f q) w (omega arith) (omega arith)) (omega arith) t
            ++ (put_same w (pairs_at n + 2 * c) (pair_record f q) h t ∷ []));
        kept = kept_put (pairs_at n + 2 * c) (pairs_at n + 2 * (c + 1)) (pairs_at n + 2 * c) (pair_record f q) w (omega arith) (omega arith);
      }
    where
      w' : List ℕ
      w' = put_record w (pairs_at n + 2 * c) (pair_record f q)

  pub pushed_grows : (lo most : ℕ) (l : List (ℕ × ℕ)) (c r : ℕ) (w w' : List ℕ) → Pushed n f lo most l c r w w' → c ≤ r
  pushed_grows lo most l c r w w' p =
      let e : r ≡ c + length (map (pair_record f) l) =
      sym (length_records_at w' (pairs_at n) r) ∙ ap length p.records ∙ length-append (records_at w (pairs_at n) c) (map (pair_record f) l)
      ∙ ap (λ (k : ℕ). k + length (map (pair_record f) l)) (length_records_at w (pairs_at n) c) in
      omega arith

  pub pushed_then : (lo lo' a b : ℕ) (l m : List (ℕ × ℕ)) (c r r' : ℕ) (w w' w'' : List ℕ) → lo ≤ lo'
      → Pushed n f lo a l c r w w' → Pushed n f lo' b m r r' w' w'' → Pushed n f lo (a + b) (l ++ m) c r' w w''
  pushed_then lo lo' a b l m c r r' w w' w'' h p q =
      record {
        few = omega (arith, p.few, q.few);
        records =
            q.records ∙ ap (λ (s : List (ℕ × ℕ)). s ++ map (pair_record f) m) p.records
            ∙ append_assoc (records_at w (pairs_at n) c) (map (pair_record f) l) (map (pair_record f) m)
            ∙ ap (λ (s : List (ℕ × ℕ)). records_at w (pairs_at n) c ++ s) (sym (map-append (pair_record f) l m));
        kept =
            kept_then lo (pairs_at n + 2 * r') w w' w''
            (kept_wider lo (pairs_at n + 2 * r) lo (pairs_at n + 2 * r') w w' p.kept (omega arith) (omega (arith, pushed_grows lo' b m r r' w' w'' q)))
            (kept_wider lo' (pairs_at n + 2 * r') lo (pairs_at n + 2 * r') w' w'' q.kept h (omega arith));
      }

  -- the same pairs by another name, or with a wider bound
  pub pushed_as : (lo a b : ℕ) (l m : List (ℕ × ℕ)) (c r : ℕ) (w w' : List ℕ) → a ≤ b → l ≡ m → Pushed n f lo a l c r w w' → Pushed n f lo b m c r w w'
  pushed_as lo a b l m c r w w' h e p =
      record { few = omega (arith, p.few); records = p.records ∙ ap (λ (s : List (ℕ × ℕ)). records_at w (pairs_at n) c ++ map (pair_record f) s) e; kept = p.kept }

-- ---- push_neighbours
pub neighbours_more : (l : List ℕ) (i : ℕ) → suc i < length l → consecutive (take (suc (suc i)) l) ≡ consecutive (take (suc i) l) ++ ((get_or l i 0, get_or l (suc i) 0) ∷ [])
unfolding consecutive
neighbours_more [] i h = absurd (omega arith)
neighbours_more (a ∷ []) i h = absurd (omega arith)
neighbours_more (a ∷ b ∷ l) zero h = refl
neighbours_more (a ∷ b ∷ l) (suc i) h = ap (λ (r : List (ℕ × ℕ)). (a, b) ∷ r) (neighbours_more (b ∷ l) i (omega arith))

neighbours_first : (l : List ℕ) → consecutive (take 1 l) ≡ []
unfolding consecutive
neighbours_first [] = refl
neighbours_first (a ∷ l) = refl

module _ (n f m count : ℕ) (w₀ : List ℕ) where
  -- the places along the side
  abbrev pub line : List ℕ
  line = map (λ x. x.1) (records_at w₀ (side_at n) m)

  pub line_length : length line ≡ m
  line_length = length-map (records_at w₀ (side_at n) m) (λ x. x.1) ∙ length_records_at w₀ (side_at n) m

  pub line_at : (i : ℕ) → i < m → get_or line i 0 ≡ get_or w₀ (side_at n + 2 * i + 1) 0
  line_at i h = get_or-map (λ (x : ℕ × ℕ). x.1) (records_at w₀ (side_at n) m) i (0, 0) ∙ ap (λ (x : ℕ × ℕ). x.1) (records_at_get w₀ (side_at n) m i h)

  pub record Nearing (w : List ℕ) (c i : ℕ) : Type 0 where
    pub sum : c ≡ count + i
    pub within : i ≤ m
    pub pushed : Pushed n f (pairs_at n + 2 * count) i (consecutive (take (suc i) line)) count c w₀ w

  pub nearing_start : Nearing w₀ count 0
  nearing_start =
      record {
        sum = omega arith;
        within = omega arith;
        pushed =
            pushed_as n f (pairs_at n + 2 * count) 0 0 [] (consecutive (take 1 line)) count count w₀ w₀ (omega arith) (sym (neighbours_first line))
            (pushed_none n f (pairs_at n + 2 * count) count w₀);
      }

  module _ (room : pairs_at n + 2 * (count + m) ≤ length w₀) (few : m ≤ n) (w : List ℕ) (c i : ℕ) (o : Nearing w c i) where
    pub near_at_lem : (j : ℕ) → j < m → get_or w (side_at n + 2 * j + 1) 0 ≡ get_or w₀ (side_at n + 2 * j + 1) 0
    near_at_lem j h = o.pushed.kept.low (side_at n + 2 * j + 1) (omega arith)

    pub nearing_turn : (a b : ℕ) → i + 1 < m → a ≡ get_or w (side_at n + 2 * i + 1) 0 → b ≡ get_or w (side_at n + 2 * i + 3) 0
        → Nearing (put_record w (pairs_at n + 2 * c) (pair_record f (a, b))) (c + 1) (i + 1)
    nearing_turn a b h p q =
        record {
          sum = omega (arith, o.sum);
          within = omega arith;
          pushed =
              subst (λ (k : ℕ). Pushed n f (pairs_at n + 2 * count) k (consecutive (take (suc k) line)) count (c + 1) w₀ (put_record w (pairs_at n + 2 * c) (pair_record f (a, b))))
              (one i)
              (pushed_as n f (pairs_at n + 2 * count) (i + 1) (suc i) (consecutive (take (suc i) line) ++ ((a, b) ∷ [])) (consecutive (take (suc (suc i)) line)) count (c + 1) w₀
              (put_record w (pairs_at n + 2 * c) (pair_record f (a, b))) (omega arith)
              ((λ t. consecutive (take (suc i) line) ++ ((first t, second t) ∷ [])) ∙ sym (neighbours_more line i (omega (arith, line_length))))
              (pushed_then n f (pairs_at n + 2 * count) (pairs_at n + 2 * c) i 1 (consecutive (take (suc i) line)) ((a, b) ∷ []) count c (c + 1) w₀ w
              (put_record w (pairs_at n + 2 * c) (pair_record f (a, b))) (omega (arith, o.sum)) o.pushed
              (pushed_one n f (a, b) c w (omega (arith, o.sum, o.pushed.kept.long)))));
        }
      where
        one : (i : ℕ) → suc i ≡ i + 1
        one i = omega arith

        first : a ≡ get_or line i 0
        first = p ∙ near_at_lem i (omega arith) ∙ sym (line_at i (omega arith))

        three : (a i : ℕ) → a + 2 * i + 3 ≡ a + 2 * suc i + 1
        three a i = omega arith

        second : b ≡ get_or line (suc i) 0
        second = q ∙ ap (λ (x : ℕ). get_or w x 0) (three (side_at n) i) ∙ near_at_lem (suc i) (omega arith) ∙ sym (line_at (suc i) (omega arith))

    pub near_low : LowPlaces n m w₀ → (j : ℕ) → j < m → get_or w (side_at n + 2 * j + 1) 0 < 2097152
    near_low l j h = omega (arith, near_at_lem j h, l j h)

    -- with the names that the code has for two places
    pub nearing_named : (at pairs : ℕ) (w' : List ℕ) → at ≡ side_at n → pairs ≡ pairs_at n → i + 1 < m
        → w' ≡ put_record w (pairs + 2 * c) (pair_record f (get_or w (at + 2 * i + 1) 0, get_or w (at + 2 * i + 3) 0)) → Nearing w' (c + 1) (i + 1)
    nearing_named at pairs w' a b h e =
        subst (λ (u : List ℕ). Nearing u (c + 1) (i + 1))
        (sym (e ∙ (λ t. put_record w (b t + 2 * c) (pair_record f (get_or w (a t + 2 * i + 1) 0, get_or w (a t + 2 * i + 3) 0)))))
        (nearing_turn (get_or w (side_at n + 2 * i + 1) 0) (get_or w (side_at n + 2 * i + 3) 0) h refl refl)

    pub near_named : (at : ℕ) → at ≡ side_at n → LowPlaces n m w₀ → i + 1 < m → (get_or w (at + 2 * i + 1) 0 < 2097152) × (get_or w (at + 2 * i + 3) 0 < 2097152)
    near_named at a l h =
        let x : get_or w (at + 2 * i + 1) 0 ≡ get_or w (side_at n + 2 * i + 1) 0 = ap (λ (k : ℕ). get_or w (k + 2 * i + 1) 0) a in
        let y : get_or w (at + 2 * i + 3) 0 ≡ get_or w (side_at n + 2 * (i + 1) + 1) 0 = ap (λ (k : ℕ). get_or w k 0) (omega arith) in
        (omega (arith, near_low l i (omega arith)), omega (arith, near_low l (i + 1) h))

    pub nearing_end : m ≤ i + 1 → Pushed n f (pairs_at n + 2 * count) m (consecutive line) count c w₀ w
    nearing_end h =
        pushed_as n f (pairs_at n + 2 * count) i m (consecutive (take (suc i) line)) (consecutive line) count c w₀ w o.within
        (ap consecutive (take_all (suc i) line (omega (arith, line_length)))) o.pushed

-- ---- push_open_edge
keep_map : {A B : Type 0} (g : A → B) (p : B → Bool) (q : A → Bool) (l : List A) → keep p (map g (keep q l)) ≡ map g (keep (λ x. p (g x) && q x) l)
keep_map g p q [] = refl
keep_map {A} {B} g p q (x ∷ l) = go (p (g x)) refl (q x) (keep_map g p q l)
  where
    go : (a : Bool) → p (g x) ≡ a → (b : Bool) → keep p (map g (keep q l)) ≡ map g (keep (λ x. p (g x) && q x) l)
        → keep p (map g (cond b (x ∷ keep q l) (keep q l))) ≡ map g (cond (a && b) (x ∷ keep (λ x. p (g x) && q x) l) (keep (λ x. p (g x) && q x) l))
    go true e true ih = ap (λ (c : Bool). cond c (g x ∷ keep p (map g (keep q l))) (keep p (map g (keep q l)))) e ∙ ap (λ (r : List B). g x ∷ r) ih
    go false e true ih = ap (λ (c : Bool). cond c (g x ∷ keep p (map g (keep q l))) (keep p (map g (keep q l)))) e ∙ ih
    go true e false ih = ih
    go false e false ih = ih

face_only : (f mask : ℕ) → f < 6 → keep (λ g. eqb g f && has_bit mask g) faces ≡ cond (has_bit mask f) (f ∷ []) []
face_only zero mask h = refl
face_only (suc zero) mask h = refl
face_only (suc (suc zero)) mask h = refl
face_only (suc (suc (suc zero))) mask h = refl
face_only (suc (suc (suc (suc zero)))) mask h = refl
face_only (suc (suc (suc (suc (suc zero))))) mask h = refl
face_only (suc (suc (suc (suc (suc (suc f)))))) mask h = absurd (omega arith)

module _ (p : Pool) (f : ℕ) (hf : f < 6) (w : List ℕ) (at : ℕ) where
  edge_at_lem : edge_pairs p f (edge_at w at)
      ≡ map (λ (e : OpenEdge). (place (eqb e.from) (face_list p f), place (eqb e.to) (face_list p f)))
      (map (λ g. open_edge g (get_or w at 0) (get_or w (at + 1) 0)) (cond (has_bit (get_or w (at + 2) 0) f) (f ∷ []) []))
  edge_at_lem =
      ap (map (λ (e : OpenEdge). (place (eqb e.from) (face_list p f), place (eqb e.to) (face_list p f))))
      (keep_map (λ g. open_edge g (get_or w at 0) (get_or w (at + 1) 0)) (λ e. eqb e.face f) (has_bit (get_or w (at + 2) 0)) faces
      ∙ ap (map (λ g. open_edge g (get_or w at 0) (get_or w (at + 1) 0))) (face_only f (get_or w (at + 2) 0) hf))

  edge_by : (b : Bool) → has_bit (get_or w (at + 2) 0) f ≡ b → edge_pairs p f (edge_at w at)
      ≡ map (λ (e : OpenEdge). (place (eqb e.from) (face_list p f), place (eqb e.to) (face_list p f)))
      (map (λ g. open_edge g (get_or w at 0) (get_or w (at + 1) 0)) (cond b (f ∷ []) []))
  edge_by b e =
      edge_at_lem ∙ ap (λ (b : Bool). map (λ (e : OpenEdge). (place (eqb e.from) (face_list p f), place (eqb e.to) (face_list p f)))
      (map (λ g. open_edge g (get_or w at 0) (get_or w (at + 1) 0)) (cond b (f ∷ []) []))) e

  pub edge_yes : has_bit (get_or w (at + 2) 0) f ≡ true
      → edge_pairs p f (edge_at w at) ≡ (place (eqb (get_or w at 0)) (face_list p f), place (eqb (get_or w (at + 1) 0)) (face_list p f)) ∷ []
  edge_yes e = edge_by true e

  pub edge_no : has_bit (get_or w (at + 2) 0) f ≡ false → edge_pairs p f (edge_at w at) ≡ []
  edge_no e = edge_by false e

-- an open edge of the face has its two candidates in the face's list
pub edge_ends : (n nf i f : ℕ) (w : List ℕ) → EdgesHeld (pool_at n w) w (open_edges_at n nf) (i + 1) → f < 6 → (edges : ℕ) → edges ≡ open_edges_at n nf
    → has_bit (get_or w (edges + 3 * i + 2) 0) f ≡ true
    → (has (face_list (pool_at n w) f) (get_or w (edges + 3 * i) 0) ≡ true) × (has (face_list (pool_at n w) f) (get_or w (edges + 3 * i + 1) 0) ≡ true)
edge_ends n nf i f w held hf edges ee bit = (
  ap (λ (k : ℕ). has (face_list (pool_at n w) f) (get_or w (k + 3 * i) 0)) ee ∙ held.from i f (omega arith) hf there,
  ap (λ (k : ℕ). has (face_list (pool_at n w) f) (get_or w (k + 3 * i + 1) 0)) ee ∙ held.to i f (omega arith) hf there,
)
  where
    there : has_bit (get_or w (open_edges_at n nf + 3 * i + 2) 0) f ≡ true
    there = ap (λ (k : ℕ). has_bit (get_or w (k + 3 * i + 2) 0) f) (sym ee) ∙ bit

-- a and b are the places noted of the edge's two candidates
pub edge_pushed : (n nf i f c : ℕ) (w : List ℕ) → Roomy n nf w → Placed n f w → EdgesHeld (pool_at n w) w (open_edges_at n nf) (i + 1) → f < 6 → c < 4 * n + 3 * nf
    → (edges : ℕ) → edges ≡ open_edges_at n nf → has_bit (get_or w (edges + 3 * i + 2) 0) f ≡ true → (a b pairs : ℕ) (w' : List ℕ)
    → a ≡ get_or w (places_at n + get_or w (edges + 3 * i) 0) 0 → b ≡ get_or w (places_at n + get_or w (edges + 3 * i + 1) 0) 0 → pairs ≡ pairs_at n
    → w' ≡ put_record w (pairs + 2 * c) (pair_record f (a, b)) → Pushed n f (pairs_at n + 2 * c) 1 (edge_pairs (pool_at n w) f (edge_at w (open_edges_at n nf + 3 * i))) c (c + 1) w w'
edge_pushed n nf i f c w room noted held hf hc edges ee bit a b pairs w' ea eb eq e =
    pushed_as n f (pairs_at n + 2 * c) 1 1 ((a, b) ∷ []) (edge_pairs (pool_at n w) f (edge_at w (open_edges_at n nf + 3 * i))) c (c + 1) w w' (omega arith)
    ((λ t. ((ea ∙ noted (get_or w (edges + 3 * i) 0) ends.0) t, (eb ∙ noted (get_or w (edges + 3 * i + 1) 0) ends.1) t) ∷ [])
    ∙ sym (edge_yes (pool_at n w) f hf w (edges + 3 * i) bit) ∙ ap (λ (k : ℕ). edge_pairs (pool_at n w) f (edge_at w (k + 3 * i))) ee)
    (subst (λ (u : List ℕ). Pushed n f (pairs_at n + 2 * c) 1 ((a, b) ∷ []) c (c + 1) w u) (sym (e ∙ ap (λ (k : ℕ). put_record w (k + 2 * c) (pair_record f (a, b))) eq))
    (pushed_one n f (a, b) c w (omega (arith, room.room))))
  where
    ends : (has (face_list (pool_at n w) f) (get_or w (edges + 3 * i) 0) ≡ true) × (has (face_list (pool_at n w) f) (get_or w (edges + 3 * i + 1) 0) ≡ true)
    ends = edge_ends n nf i f w held hf edges ee bit

pub edge_skipped : (n nf i f c : ℕ) (w : List ℕ) → f < 6 → (edges : ℕ) → edges ≡ open_edges_at n nf → has_bit (get_or w (edges + 3 * i + 2) 0) f ≡ false
    → Pushed n f (pairs_at n + 2 * c) 1 (edge_pairs (pool_at n w) f (edge_at w (open_edges_at n nf + 3 * i))) c c w w
edge_skipped n nf i f c w hf edges ee bit =
    pushed_as n f (pairs_at n + 2 * c) 0 1 [] (edge_pairs (pool_at n w) f (edge_at w (open_edges_at n nf + 3 * i))) c c w w (omega arith)
    (sym (edge_no (pool_at n w) f hf w (edges + 3 * i) bit) ∙ ap (λ (k : ℕ). edge_pairs (pool_at n w) f (edge_at w (k + 3 * i))) ee) (pushed_none n f (pairs_at n + 2 * c) c w)

-- ---- push_open_edges
pub edges_more : (p : Pool) (f : ℕ) (w : List ℕ) (at i : ℕ) → edge_pairs p f (edges_at w at (i + 1)) ≡ edge_pairs p f (edges_at w at i) ++ edge_pairs p f (edge_at w (at + 3 * i))
unfolding edges_at
edges_more p f w at i =
    let g : OpenEdge → ℕ × ℕ = λ e. (place (eqb e.from) (face_list p f), place (eqb e.to) (face_list p f)) in
    let k : OpenEdge → Bool = λ e. eqb e.face f in
    ap (λ (l : List OpenEdge). map g (keep k l)) (flat_up (λ i. edge_at w (at + 3 * i)) i)
    ∙ ap (map g) (keep_append k (flat_map (λ i. edge_at w (at + 3 * i)) (up_to i)) (edge_at w (at + 3 * i)))
    ∙ map-append g (keep k (flat_map (λ i. edge_at w (at + 3 * i)) (up_to i))) (keep k (edge_at w (at + 3 * i)))

module _ (n f at count : ℕ) (w₀ : List ℕ) where
  pub record Edging (k : ℕ) (w : List ℕ) (c i : ℕ) : Type 0 where
    pub within : i ≤ k
    pub pushed : Pushed n f (pairs_at n + 2 * count) i (edge_pairs (pool_at n w₀) f (edges_at w₀ at i)) count c w₀ w

  pub edging_start : (k : ℕ) → Edging k w₀ count 0
  unfolding edges_at flat_map up_from
  edging_start k = record { within = omega arith; pushed = pushed_none n f (pairs_at n + 2 * count) count w₀ }

  pub edging_turn : (k : ℕ) (w w' : List ℕ) (c r i : ℕ) → Edging k w c i → i < k → pool_at n w ≡ pool_at n w₀ → edge_at w (at + 3 * i) ≡ edge_at w₀ (at + 3 * i)
      → Pushed n f (pairs_at n + 2 * c) 1 (edge_pairs (pool_at n w) f (edge_at w (at + 3 * i))) c r w w' → Edging k w' r (i + 1)
  edging_turn k w w' c r i o h e g p =
      record {
        within = omega arith;
        pushed =
            pushed_as n f (pairs_at n + 2 * count) (i + 1) (i + 1)
            (edge_pairs (pool_at n w₀) f (edges_at w₀ at i) ++ edge_pairs (pool_at n w) f (edge_at w (at + 3 * i))) (edge_pairs (pool_at n w₀) f (edges_at w₀ at (i + 1))) count r w₀ w'
            (omega arith)
            ((λ t. edge_pairs (pool_at n w₀) f (edges_at w₀ at i) ++ edge_pairs (e t) f (g t)) ∙ sym (edges_more (pool_at n w₀) f w₀ at i))
            (pushed_then n f (pairs_at n + 2 * count) (pairs_at n + 2 * c) i 1 (edge_pairs (pool_at n w₀) f (edges_at w₀ at i)) (edge_pairs (pool_at n w) f (edge_at w (at + 3 * i)))
            count c r w₀ w w'
            (omega (arith, pushed_grows n f (pairs_at n + 2 * count) i (edge_pairs (pool_at n w₀) f (edges_at w₀ at i)) count c w₀ w o.pushed)) o.pushed p);
      }

  module _ (nf k : ℕ) (o : Shown n w₀) (room : Roomy n nf w₀) (noted : Placed n f w₀) (held : EdgesHeld (pool_at n w₀) w₀ at k) (hf : f < 6) (far : pairs_at n + 2 * (count + k) ≤ at)
      (w : List ℕ) (c i : ℕ) (e : Edging k w c i) where
    low : (x : ℕ) → x < pairs_at n + 2 * count → get_or w x 0 ≡ get_or w₀ x 0
    low = e.pushed.kept.low

    high : (x : ℕ) → at ≤ x → get_or w x 0 ≡ get_or w₀ x 0
    high x h = e.pushed.kept.high x (omega (arith, e.pushed.few, e.within))

    pub edging_same : pool_at n w ≡ pool_at n w₀
    edging_same = pool_same n w₀ w o e.pushed.kept.long (λ x h. low x (omega arith))

    pub edging_shown : Shown n w
    edging_shown = shown_same n w₀ w o e.pushed.kept.long (λ x h. low x (omega arith))

    pub edging_roomy : Roomy n nf w
    edging_roomy = record { small = room.small; facets = room.facets; room = omega (arith, room.room, e.pushed.kept.long) }

    pub edging_placed : Placed n f w
    edging_placed = placed_same n f w₀ o hf w noted e.pushed.kept.long (λ x h. low x (omega arith))

    pub edging_held : i < k → EdgesHeld (pool_at n w) w at (i + 1)
    edging_held h = held_after w₀ w at (i + 1) high (pool_at n w₀) (pool_at n w) edging_same (held_fewer (pool_at n w₀) w₀ at k (i + 1) (omega arith) held)

    pub edging_next : (w' : List ℕ) (r : ℕ) → i < k → Pushed n f (pairs_at n + 2 * c) 1 (edge_pairs (pool_at n w) f (edge_at w (at + 3 * i))) c r w w' → Edging k w' r (i + 1)
    edging_next w' r h p =
        let e0 = high (at + 3 * i) (omega arith) in
        let e1 = high (at + 3 * i + 1) (omega arith) in
        let e2 = high (at + 3 * i + 2) (omega arith) in
        edging_turn k w w' c r i e h edging_same (λ t. map (λ g. open_edge g (e0 t) (e1 t)) (faces_in (e2 t))) p

  pub edging_end : (k : ℕ) (w : List ℕ) (c i : ℕ) → Edging k w c i → k ≤ i → Pushed n f (pairs_at n + 2 * count) k (edge_pairs (pool_at n w₀) f (edges_at w₀ at k)) count c w₀ w
  edging_end k w c i o h =
      pushed_as n f (pairs_at n + 2 * count) i k (edge_pairs (pool_at n w₀) f (edges_at w₀ at i)) (edge_pairs (pool_at n w₀) f (edges_at w₀ at k)) count c w₀ w o.within
      (ap (λ (j : ℕ). edge_pairs (pool_at n w₀) f (edges_at w₀ at j)) (last i k o.within h)) o.pushed
    where
      last : (i k : ℕ) → i ≤ k → k ≤ i → i ≡ k
      last i k a b = omega arith
