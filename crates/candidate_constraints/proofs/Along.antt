-- The candidates along a side: their records, and the order of these. Assumes nothing.
--   on_side_number, on_side_no_nan               a fraction along a side is a number
--   fraction_one, fraction_none                  `note_fraction`
--   records_add                                  records in two parts
--   Collecting, collecting_start, -named, -end   `collect_side`; collected_stored   the point that it reads
--   stable_is_sorted, sorted_places              by t, and of one t in the order of the list: by the key of t, and then by place
use Prim.Native.Nat.{ℕ, zero, suc, ◌+◌, ◌*◌, ◌-◌, ◌≤◌, ◌<◌}
use mathlib.Core.Bool.{Bool, true, false, not, cond, ◌&&◌}
use mathlib.Core.List.{List, [], ◌∷◌, ◌++◌, map, flat_map, map-append}
use mathlib.Core.Logic.{⊎_elim}
use mathlib.Core.Path.{◌≡◌, refl, sym, ap, subst, ◌∙◌}
use native.Mathlib.Omega.{arith}
use borrow.Author.Tests.{le-ltb}
use lib.Dec.{T, eqb, ltb}
use lib.ListN.{length, get_or}
use lib.Ieee.{Float, nan, inf, fin, binary64, fits, lt, le, eq, is_nan, neg, of_bits}
use lib.Ieee.Fits.{div-fits}
use Rattle.lists.specs.Lists.{sort_by, up_from, up_to}
use Rattle.lists.proofs.Bools.{and_left, last_false}
use Rattle.lists.proofs.Mapped.{Each, Pairwise, Agree, map_sort_by}
use Rattle.lists.proofs.Orders.{cases}
use Rattle.lists.proofs.Sequences.{flat_up}
use Rattle.root.specs.Doubles.{◌⊕◌, ◌⊖◌, ◌⊘◌, zero_f, one_f, magnitude, within, larger, clamped}
use Rattle.root.proofs.Doubles.{clamped_low, clamped_high, clamped_same}
use Rattle.rounding.specs.Ordering.{order_key}
use Rattle.rounding.proofs.Ordering.{Number, before_keys}
use Rattle.records.specs.Buffer.{put_record, records_at}
use Rattle.records.specs.Records.{record_before, sorted}
use Rattle.records.proofs.Records.{records_at_split, put_same}
use Rattle.geometry.specs.declared.point.Point.{Point}
use Rattle.std.specs.Prelude.{Option, Some, None}
use Rattle.box_faces.specs.declared.uv.Side.{Side}
use Rattle.box_faces.specs.declared.uv.Uv.{Uv}
use Rattle.box_faces.specs.Faces.{project}
use Rattle.box_faces.specs.Sides.{between_ends, along_side, on_side}
use Rattle.candidate_pool.specs.Offsets.{entry_at, list_at, side_at}
use Rattle.candidate_pool.specs.Pool.{Pool, point_of, face_list}
use Rattle.candidate_pool.specs.Standing.{count_at, point_at, pool_at, PointStored}
use Rattle.candidate_pool.proofs.Reading.{pool_point, list_in, list_at_lem, list_length}
use Rattle.candidate_constraints.specs.Constraints.{standing}
use Rattle.candidate_constraints.specs.Steps.{Kept, Shown, stands, on_side_all, by_fraction, side_places, keyed, NoNan, Fractioned, Collected}
use Rattle.candidate_constraints.proofs.Frames.{kept_same, kept_put, kept_wider, kept_then, records_kept}
use Rattle.candidate_constraints.proofs.Showing.{list_low, shown_same}

-- ---- a fraction is a number
zero_number : Number zero_f
unfolding of_bits fits is_nan
zero_number = record { held = tt; number = tt }

one_number : Number one_f
unfolding of_bits fits is_nan
one_number = record { held = tt; number = tt }

le_right : (x y : Float) → le x y ≡ true → T (not (is_nan y))
unfolding le lt eq is_nan
le_right nan nan h = absurd (let z : ◌≡◌ {A = ℕ} 0 1 = cc in omega arith)
le_right (inf s) nan h = absurd (let z : ◌≡◌ {A = ℕ} 0 1 = cc in omega arith)
le_right (fin s m e) nan h = absurd (let z : ◌≡◌ {A = ℕ} 0 1 = cc in omega arith)
le_right x (inf s) h = tt
le_right x (fin s m e) h = tt

clamped_number : (t : Float) → Number t → Number (clamped t)
clamped_number t n =
    ⊎_elim (λ (e : lt t zero_f ≡ true). subst Number (sym (clamped_low t e)) zero_number)
    (λ (e : lt t zero_f ≡ false).
    ⊎_elim (λ (g : lt one_f t ≡ true). subst Number (sym (clamped_high t e g)) one_number)
    (λ (g : lt one_f t ≡ false). subst Number (sym (clamped_same t e g)) n) (cases (lt one_f t)))
    (cases (lt t zero_f))

-- what a choice between a fraction and nothing answered
chosen : (b : Bool) (t x : Float) → cond b (Some t) None ≡ Some x → (b ≡ true) × (t ≡ x)
chosen true t x e = (refl, cc)
chosen false t x e = absurd (let z : ◌≡◌ {A = ℕ} 0 1 = cc in omega arith)

passed : (b : Bool) (t : Option Float) (x : Float) → cond b t None ≡ Some x → t ≡ Some x
passed true t x e = e
passed false t x e = absurd (let z : ◌≡◌ {A = ℕ} 0 1 = cc in omega arith)

between_number : (t slack x : Float) → T (fits binary64 t) → between_ends t slack ≡ Some x → Number x
unfolding between_ends
between_number t slack x f e =
    let c = chosen (le (neg slack) t && le t (one_f ⊕ slack)) (clamped t) x e in
    subst Number c.1 (clamped_number t (record { held = f; number = le_right (neg slack) t (and_left (le (neg slack) t) (le t (one_f ⊕ slack)) c.0) }))

along_number : (eps d t w x : Float) → T (fits binary64 t) → along_side eps d t w ≡ Some x → Number x
unfolding along_side
along_number eps d t w x f e =
    between_number t (eps ⊘ larger (magnitude d) eps) x f (passed (within eps w) (between_ends t (eps ⊘ larger (magnitude d) eps)) x e)

either : (b : Bool) (s t : Option Float) (x : Float) → cond b s t ≡ Some x → (s ≡ Some x → Number x) → (t ≡ Some x → Number x) → Number x
either true s t x e f g = f e
either false s t x e f g = g e

pub on_side_number : (eps : Float) (s : Side) (p : Uv) (x : Float) → on_side eps s p ≡ Some x → Number x
unfolding on_side
on_side_number eps s p x e =
    let du = s.end.u ⊖ s.start.u in
    let dv = s.end.v ⊖ s.start.v in
    either (le (magnitude dv) (magnitude du)) (along_side eps du ((p.u ⊖ s.start.u) ⊘ du) (p.v ⊖ s.start.v))
    (along_side eps dv ((p.v ⊖ s.start.v) ⊘ dv) (p.u ⊖ s.start.u)) x e
    (along_number eps du ((p.u ⊖ s.start.u) ⊘ du) (p.v ⊖ s.start.v) x (div-fits binary64 (p.u ⊖ s.start.u) du))
    (along_number eps dv ((p.v ⊖ s.start.v) ⊘ dv) (p.u ⊖ s.start.u) x (div-fits binary64 (p.v ⊖ s.start.v) dv))

pub on_side_no_nan : (eps : Float) (s : Side) (p : Uv) (t : Option Float) → t ≡ on_side eps s p → NoNan t
on_side_no_nan eps s p t e x q = (on_side_number eps s p x (sym e ∙ q)).number

-- ---- note_fraction
pub fraction_one : (at i : ℕ) (t : Option Float) (x : Float) (k : ℕ) (w : List ℕ) → t ≡ Some x → k ≡ order_key x → at + 1 < length w → Fractioned at t i 1 w (put_record w at (k, i))
unfolding records_at
fraction_one at i t x k w e f h =
    record {
      few = omega arith;
      records = (λ s. put_same w at (k, i) h s ∷ []) ∙ (λ s. (f s, i) ∷ []) ∙ ap (λ (u : Option Float). map keyed (standing i u)) (sym e);
      kept = kept_put at (at + 2) at (k, i) w (omega arith) (omega arith);
    }

pub fraction_none : (at i : ℕ) (t : Option Float) (w : List ℕ) → t ≡ None → Fractioned at t i 0 w w
unfolding records_at
fraction_none at i t w e =
    record { few = omega arith; records = ap (λ (u : Option Float). map keyed (standing i u)) (sym e); kept = kept_same at (at + 2) w }

-- ---- collect_side
pub records_add : (w : List ℕ) (at m r : ℕ) → records_at w at (m + r) ≡ records_at w at m ++ records_at w (at + 2 * m) r
records_add w at m r =
    records_at_split w at (m + r) m (omega arith) ∙ ap (λ (k : ℕ). records_at w at m ++ records_at w (at + 2 * m) k) (back m r)
  where
    back : (m r : ℕ) → m + r - m ≡ r
    back m r = omega arith

module _ (eps : Float) (n f : ℕ) (s : Side) (w₀ : List ℕ) where
  pub record Collecting (w : List ℕ) (m i : ℕ) : Type 0 where
    pub within : i ≤ get_or w₀ f 0
    pub few : m ≤ i
    pub kept : Kept (side_at n) (side_at n + 2 * n) w₀ w
    pub records : records_at w (side_at n) m ≡ map keyed (flat_map (stands eps (pool_at n w₀) f s) (up_to i))

  pub collecting_start : Collecting w₀ 0 0
  unfolding records_at flat_map up_from
  collecting_start = record { within = omega arith; few = omega arith; kept = kept_same (side_at n) (side_at n + 2 * n) w₀; records = refl }

  module _ (o : Shown n w₀) (hf : f < 6) (w : List ℕ) (m i : ℕ) (c : Collecting w m i) where
    pub collected_id : i < get_or w₀ f 0 → get_or w (list_at n f + i) 0 ≡ get_or w₀ (list_at n f + i) 0
    collected_id h = c.kept.low (list_at n f + i) (omega (arith, o.lengths f hf, list_in n f hf))

    pub collected_low : i < get_or w₀ f 0 → get_or w (list_at n f + i) 0 < count_at w₀
    collected_low h = omega (arith, collected_id h, list_low n w₀ o f hf i h)

    -- the point that the loop reads is that of candidate i of the list
    pub collected_point : i < get_or w₀ f 0 → point_at w (entry_at (get_or w (list_at n f + i) 0)) ≡ point_of (pool_at n w₀) (get_or (face_list (pool_at n w₀) f) i 0)
    collected_point h =
        let d = get_or w (list_at n f + i) 0 in
        let l = collected_low h in
        let k = o.few in
        let e0 = c.kept.low (entry_at d) (omega arith) in
        let e1 = c.kept.low (entry_at d + 1) (omega arith) in
        let e2 = c.kept.low (entry_at d + 2) (omega arith) in
        (λ t. record { x = of_bits binary64 (e0 t); y = of_bits binary64 (e1 t); z = of_bits binary64 (e2 t) })
        ∙ sym (pool_point n w₀ d l) ∙ ap (point_of (pool_at n w₀)) (collected_id h ∙ sym (list_at_lem n w₀ f i hf h))

    pub collecting_turn : (w' : List ℕ) (t : Option Float) (r : ℕ) → i < get_or w₀ f 0
        → t ≡ on_side eps s (project f (point_of (pool_at n w₀) (get_or (face_list (pool_at n w₀) f) i 0)))
        → Fractioned (side_at n + 2 * m) t i r w w' → Collecting w' (m + r) (i + 1)
    collecting_turn w' t r h e g =
        record {
          within = omega arith;
          few = omega (arith, g.few, c.few);
          kept = kept_then (side_at n) (side_at n + 2 * n) w₀ w w' c.kept
              (kept_wider (side_at n + 2 * m) (side_at n + 2 * m + 2) (side_at n) (side_at n + 2 * n) w w' g.kept (omega arith) (omega (arith, c.few, o.lengths f hf)));
          records =
              records_add w' (side_at n) m r
              ∙ (λ u. records_kept (side_at n + 2 * m) (side_at n + 2 * m + 2) (side_at n) m w w' g.kept (omega arith) u ++ g.records u)
              ∙ (λ u. c.records u ++ map keyed (standing i (e u)))
              ∙ sym (ap (map keyed) (flat_up (stands eps (pool_at n w₀) f s) i)
              ∙ map-append keyed (flat_map (stands eps (pool_at n w₀) f s) (up_to i)) (stands eps (pool_at n w₀) f s i));
        }

    pub collected_shown : Shown n w
    collected_shown = shown_same n w₀ w o c.kept.long (λ x h. c.kept.low x (omega arith))

    -- with the names that the code has for two places
    module _ (list : ℕ) (a : list ≡ list_at n f) where
      pub collected_stored : i < get_or w₀ f 0 → PointStored w (entry_at (get_or w (list + i) 0)) × (entry_at (get_or w (list + i) 0) + 2 < length w)
      collected_stored h =
          let e : get_or w (list + i) 0 ≡ get_or w (list_at n f + i) 0 = ap (λ (k : ℕ). get_or w (k + i) 0) a in
          let l = collected_low h in (
            collected_shown.stored (get_or w (list + i) 0) (omega (arith, c.kept.low 6 (omega arith))),
            omega (arith, o.few, o.size, c.kept.long),
          )

      pub collecting_named : (at : ℕ) (w' : List ℕ) (q : Point) (p : Uv) (t : Option Float) (r : ℕ) → at ≡ side_at n → i < get_or w₀ f 0
          → q ≡ point_at w (entry_at (get_or w (list + i) 0))
          → p ≡ project f q → t ≡ on_side eps s p → Fractioned (at + 2 * m) t i r w w' → Collecting w' (m + r) (i + 1)
      collecting_named at w' q p t r b h eq ep et g =
          collecting_turn w' t r h
          (et ∙ ap (on_side eps s) (ep ∙ ap (project f) (eq ∙ ap (λ (k : ℕ). point_at w (entry_at (get_or w (k + i) 0))) a ∙ collected_point h)))
          (subst (λ (k : ℕ). Fractioned (k + 2 * m) t i r w w') b g)

    pub collecting_end : get_or w₀ f 0 ≤ i → Collected eps n f s m w₀ w
    collecting_end h =
        record {
          few = omega (arith, c.few, c.within);
          records = c.records ∙ ap (λ (k : ℕ). map keyed (flat_map (stands eps (pool_at n w₀) f s) (up_to k)))
              (last i (get_or w₀ f 0) c.within h ∙ sym (list_length n w₀ f o.size (o.lengths f hf) hf));
          kept = c.kept;
        }
      where
        last : (i k : ℕ) → i ≤ k → k ≤ i → i ≡ k
        last i k a b = omega arith

-- ---- the order

record Entry (k : ℕ) (x : Float × ℕ) : Type 0 where
  pub above : k ≤ x.1
  pub number : Number x.0

entry_agree : (k : ℕ) (x y : Float × ℕ) → x.1 ≡ k → Number x.0 → Entry (suc k) y → Agree keyed by_fraction record_before x y
entry_agree k x y e a b =
    before_keys y.0 x.0 b.number.held a.held b.number.number a.number
    ∙ sym (last_false (ltb (order_key y.0) (order_key x.0)) (eqb (order_key y.0) (order_key x.0)) (ltb y.1 x.1) (le-ltb y.1 x.1 (omega (arith, b.above))))

module _ (eps : Float) (p : Pool) (f : ℕ) (s : Side) where
  abbrev there : ℕ → Option Float
  there i = on_side eps s (project f (point_of p (get_or (face_list p f) i 0)))

  entries_from : (k n : ℕ) → Each (Entry k) (flat_map (stands eps p f s) (up_from k n))
  unfolding flat_map up_from
  entries_from k zero = tt
  entries_from k (suc n) = go (there k) refl (lower (flat_map (stands eps p f s) (up_from (suc k) n)) (entries_from (suc k) n))
    where
      lower : (l : List (Float × ℕ)) → Each (Entry (suc k)) l → Each (Entry k) l
      lower [] h = tt
      lower (x ∷ l) h = (record { above = omega (arith, h.0.above); number = h.0.number }, lower l h.1)

      go : (t : Option Float) → there k ≡ t → Each (Entry k) (flat_map (stands eps p f s) (up_from (suc k) n)) → Each (Entry k)
          (standing k t ++ flat_map (stands eps p f s) (up_from (suc k) n))
      go (Some x) e h = (record { above = omega arith; number = on_side_number eps s (project f (point_of p (get_or (face_list p f) k 0))) x e }, h)
      go None e h = h

  agree_from : (k n : ℕ) → Pairwise (Agree keyed by_fraction record_before) (flat_map (stands eps p f s) (up_from k n))
  unfolding flat_map up_from
  agree_from k zero = tt
  agree_from k (suc n) = go (there k) refl (agree_from (suc k) n)
    where
      first : (x : Float) → Number x → (l : List (Float × ℕ)) → Each (Entry (suc k)) l → Each (Agree keyed by_fraction record_before (x, k)) l
      first x a [] h = tt
      first x a (y ∷ l) h = (entry_agree k (x, k) y refl a h.0, first x a l h.1)

      go : (t : Option Float) → there k ≡ t → Pairwise (Agree keyed by_fraction record_before) (flat_map (stands eps p f s) (up_from (suc k) n))
          → Pairwise (Agree keyed by_fraction record_before) (standing k t ++ flat_map (stands eps p f s) (up_from (suc k) n))
      go (Some x) e h =
          (first x (on_side_number eps s (project f (point_of p (get_or (face_list p f) k 0))) x e) (flat_map (stands eps p f s) (up_from (suc k) n)) (entries_from (suc k) n), h)
      go None e h = h

  pub stable_is_sorted : map keyed (sort_by by_fraction (on_side_all eps p f s)) ≡ sorted (map keyed (on_side_all eps p f s))
  stable_is_sorted = map_sort_by keyed by_fraction record_before (on_side_all eps p f s) (agree_from 0 (length (face_list p f)))

  map_payload : (l : List (Float × ℕ)) → map (λ (r : ℕ × ℕ). r.1) (map keyed l) ≡ map (λ (x : Float × ℕ). x.1) l
  map_payload [] = refl
  map_payload (x ∷ l) = ap (λ (r : List ℕ). x.1 ∷ r) (map_payload l)

  pub sorted_places : map (λ (r : ℕ × ℕ). r.1) (sorted (map keyed (on_side_all eps p f s))) ≡ side_places eps p f s
  unfolding side_places
  sorted_places = ap (map (λ (r : ℕ × ℕ). r.1)) (sym stable_is_sorted) ∙ map_payload (sort_by by_fraction (on_side_all eps p f s))
