-- Facets that are left, with their records. Assumes nothing.
--   entering_kept, named_kept   a room that differs behind the numbers given out only
--   left_frame         a room that agrees at the facets and their records
--   left_put           one facet more
--   append_below, append_small       the facet of a triangle: its vertices are there, and their numbers small
--   appended_large, appended_small   one that is left, and one that is not
use Prim.Native.Nat.{ℕ, ◌+◌, ◌*◌, ◌-◌, ◌/◌, ◌≤◌, ◌<◌}
use mathlib.Core.Path.{◌≡◌, sym, ap, subst, ◌∙◌}
use mathlib.Core.Bool.{true, false}
use mathlib.Core.List.{List, [], ◌∷◌, ◌++◌, map, append-nil}
use native.Mathlib.Decide.{ℕ_discrete}
use native.Mathlib.Omega.{arith}
use lib.ListN.{length, get_or, set, length-set}
use lib.Ieee.{Float}
use lib.Seq.{get_or-set_same, get_or-set_other}
use Rattle.lists.specs.Lists.{keep, up_to}
use Rattle.lists.specs.Regions.{view}
use Rattle.lists.proofs.Multiplicity.{keep_yes, keep_no}
use Rattle.lists.proofs.Regions.{view_same}
use Rattle.lists.proofs.Sequences.{map_below}
use Rattle.geometry.specs.declared.point.Point.{Point}
use Rattle.geometry.specs.Triangles.{Triangle, tri, mapped, vertices}
use Rattle.geometry.specs.Meshes.{points_of}
use Rattle.geometry.specs.FirstUse.{Named, new_number}
use Rattle.geometry.proofs.Meshes.{length_points_of}
use Rattle.mesh_filter.specs.Room.{corners_key, Below}
use Rattle.candidate_pool.specs.Standing.{count_at}
use Rattle.cap_closing.specs.Closing.{is_large}
use Rattle.cap_closing.specs.Steps.{point_in, named_at, NamesEntering, NamesEntered, NewNumbers, left_facet, LeftAre, put_left, Appended}
use Rattle.cap_closing.proofs.Growth.{named_of}
use Rattle.cap_closing.proofs.Upwards.{keep_nil, map_more}
use Rattle.cap_closing.proofs.Numbering.{most_vertices, points_at}
use Rattle.cap_closing.proofs.Corners.{point_below, entered_count, numbers_below, numbers_are}

-- ---- what stands behind the numbers given out does not matter to them

module _ (b n nc nv : ℕ) (w w' : List ℕ) (E : NamesEntering b n nc nv w) (long : length w' ≡ length w)
    (same : (x : ℕ) → x < b + 2 * n → get_or w' x 0 ≡ get_or w x 0) (top : get_or w' (b + 2 * n + 8 * nc) 0 ≡ get_or w (b + 2 * n + 8 * nc) 0) where
  count_same : count_at w' ≡ count_at w
  count_same = same 6 (let p = E.pool in omega arith)

  fresh_same : (i : ℕ) → nv + i < get_or w (b + 2 * n + 8 * nc) 0 → get_or w' (b + n + i) 0 ≡ get_or w (b + n + i) 0
  fresh_same i h = let m = most_vertices b n nc nv w E in let c = E.count in same (b + n + i) (omega arith)

  pub entering_kept : NamesEntering b n nc nv w'
  entering_kept =
      let k = count_same in
      let s = E.size in
      let c = E.count in
      let o = E.own in
      record {
        pool = E.pool;
        size = omega arith;
        count = omega arith;
        small = E.small;
        caps = E.caps;
        few = E.few;
        own = omega arith;
        fresh = λ i h. let x = fresh_same i (omega arith) in let y = E.fresh i (omega arith) in omega arith;
        numbered = λ i h.
            let i<v : nv + i < get_or w (b + 2 * n + 8 * nc) 0 = omega arith in
            let x = ap (λ (c : ℕ). get_or w' (b + c) 0) (fresh_same i i<v) in
            let f = E.fresh i i<v in
            let y = same (b + get_or w (b + n + i) 0) (omega arith) in
            let z = E.numbered i i<v in
            omega arith;
        low = λ c h. let x = same (b + c) (omega arith) in let y = E.low c (omega arith) in omega arith;
      }

  pub named_kept : (points : List Point) → named_at b n nc nv points w' ≡ named_at b n nc nv points w
  named_kept points =
      let s = E.size in
      let c = E.count in
      named_of
      (ap (view w' b) count_same ∙ view_same w w' b (count_at w) (omega arith) long (λ i h. same (b + i) (omega arith)))
      (ap (λ (l : List Point). points ++ l)
      (points_at b n nc nv w' entering_kept
      ∙ ap (λ (k : ℕ). map (λ i. point_in w' (get_or w' (b + n + i) 0)) (up_to (k - nv))) top
      ∙ map_below (λ i. point_in w' (get_or w' (b + n + i) 0)) (λ i. point_in w (get_or w (b + n + i) 0)) (get_or w (b + 2 * n + 8 * nc) 0 - nv)
      (λ i h.
      let i<v : nv + i < get_or w (b + 2 * n + 8 * nc) 0 = (let o = E.own in omega arith) in
      ap (point_in w') (fresh_same i i<v) ∙ point_below b n w w' E.pool (λ x l. same x (omega arith)) (get_or w (b + n + i) 0) (let f = E.fresh i i<v in omega arith))
      ∙ sym (points_at b n nc nv w E)))

-- ---- facets left

below_more : (k m : ℕ) (t : Triangle ℕ) → k ≤ m → Below k t → Below m t
below_more k m t h B = let x = B.a in let y = B.b in let z = B.c in record { a = omega arith; b = omega arith; c = omega arith }

module _ (b n nc left : ℕ) (w w' : List ℕ) (list : List (Triangle ℕ)) (few : left ≤ nc)
    (same : (j : ℕ) → j < 3 * left → get_or w' (b + 2 * n + j) 0 ≡ get_or w (b + 2 * n + j) 0)
    (records : (j : ℕ) → j < 2 * left → get_or w' (b + 2 * n + 3 * nc + j) 0 ≡ get_or w (b + 2 * n + 3 * nc + j) 0)
    (grows : get_or w (b + 2 * n + 8 * nc) 0 ≤ get_or w' (b + 2 * n + 8 * nc) 0) (L : LeftAre b n nc left w list) where
  facet_same : (j : ℕ) → j < left → left_facet b n w' j ≡ left_facet b n w j
  facet_same j h =
      let x = same (3 * j) (omega arith) in
      let y = near (b + 2 * n) (3 * j) 1 (same (3 * j + 1) (omega arith)) in
      let z = near (b + 2 * n) (3 * j) 2 (same (3 * j + 2) (omega arith)) in
      λ t. tri (x t) (y t) (z t)
    where
      near : (o j k : ℕ) → get_or w' (o + (j + k)) 0 ≡ get_or w (o + (j + k)) 0 → get_or w' (o + j + k) 0 ≡ get_or w (o + j + k) 0
      near o j k e = let q : o + j + k ≡ o + (j + k) = omega arith in ap (λ (x : ℕ). get_or w' x 0) q ∙ e ∙ sym (ap (λ (x : ℕ). get_or w x 0) q)

  pub left_frame : LeftAre b n nc left w' list
  left_frame =
      record {
        facets = map_below (left_facet b n w') (left_facet b n w) left facet_same ∙ L.facets;
        keys = λ j h. records (2 * j) (omega arith) ∙ L.keys j h ∙ ap corners_key (sym (facet_same j h));
        places = λ j h. let q : b + 2 * n + 3 * nc + 2 * j + 1 ≡ b + 2 * n + 3 * nc + (2 * j + 1) = omega arith in
            ap (λ (x : ℕ). get_or w' x 0) q ∙ records (2 * j + 1) (omega arith) ∙ sym (ap (λ (x : ℕ). get_or w x 0) q) ∙ L.places j h;
        below = λ j h. subst (Below (get_or w' (b + 2 * n + 8 * nc) 0)) (sym (facet_same j h))
            (below_more (get_or w (b + 2 * n + 8 * nc) 0) (get_or w' (b + 2 * n + 8 * nc) 0) (left_facet b n w j) grows (L.below j h));
      }

module _ (b n nc left : ℕ) (w : List ℕ) (t : Triangle ℕ) (room : left < nc) (size : b + 2 * n + 8 * nc < length w) where
  abbrev o : ℕ
  o = b + 2 * n + 3 * left

  abbrev p : ℕ
  p = b + 2 * n + 3 * nc + 2 * left

  abbrev w₁ : List ℕ
  w₁ = set w o t.a

  abbrev w₂ : List ℕ
  w₂ = set w₁ (o + 1) t.b

  abbrev w₃ : List ℕ
  w₃ = set w₂ (o + 2) t.c

  abbrev w₄ : List ℕ
  w₄ = set w₃ p (corners_key t)

  abbrev w₅ : List ℕ
  w₅ = set w₄ (p + 1) left

  long₁ : length w₁ ≡ length w
  long₁ = length-set w o t.a

  long₂ : length w₂ ≡ length w
  long₂ = length-set w₁ (o + 1) t.b ∙ long₁

  long₃ : length w₃ ≡ length w
  long₃ = length-set w₂ (o + 2) t.c ∙ long₂

  long₄ : length w₄ ≡ length w
  long₄ = length-set w₃ p (corners_key t) ∙ long₃

  put_long : length w₅ ≡ length w
  put_long = length-set w₄ (p + 1) left ∙ long₄

  off : (x : ℕ) → (x ≡ o → ⊥) → (x ≡ o + 1 → ⊥) → (x ≡ o + 2 → ⊥) → (x ≡ p → ⊥) → (x ≡ p + 1 → ⊥) → get_or w₅ x 0 ≡ get_or w x 0
  off x d e f g h =
      get_or-set_other w₄ (p + 1) x left 0 h ∙ get_or-set_other w₃ p x (corners_key t) 0 g ∙ get_or-set_other w₂ (o + 2) x t.c 0 f
      ∙ get_or-set_other w₁ (o + 1) x t.b 0 e ∙ get_or-set_other w o x t.a 0 d

  put_below : (x : ℕ) → x < b + 2 * n → get_or w₅ x 0 ≡ get_or w x 0
  put_below x h = off x (λ e. omega arith) (λ e. omega arith) (λ e. omega arith) (λ e. omega arith) (λ e. omega arith)

  put_top : get_or w₅ (b + 2 * n + 8 * nc) 0 ≡ get_or w (b + 2 * n + 8 * nc) 0
  put_top = off (b + 2 * n + 8 * nc) (λ e. omega arith) (λ e. omega arith) (λ e. omega arith) (λ e. omega arith) (λ e. omega arith)

  at_a : get_or w₅ o 0 ≡ t.a
  at_a =
      get_or-set_other w₄ (p + 1) o left 0 (λ e. omega arith) ∙ get_or-set_other w₃ p o (corners_key t) 0 (λ e. omega arith) ∙ get_or-set_other w₂ (o + 2) o t.c 0 (λ e. omega arith)
      ∙ get_or-set_other w₁ (o + 1) o t.b 0 (λ e. omega arith) ∙ get_or-set_same w o t.a 0 (omega arith)

  at_b : get_or w₅ (o + 1) 0 ≡ t.b
  at_b =
      get_or-set_other w₄ (p + 1) (o + 1) left 0 (λ e. omega arith) ∙ get_or-set_other w₃ p (o + 1) (corners_key t) 0 (λ e. omega arith)
      ∙ get_or-set_other w₂ (o + 2) (o + 1) t.c 0 (λ e. omega arith) ∙ get_or-set_same w₁ (o + 1) t.b 0 (let l = long₁ in omega arith)

  at_c : get_or w₅ (o + 2) 0 ≡ t.c
  at_c =
      get_or-set_other w₄ (p + 1) (o + 2) left 0 (λ e. omega arith) ∙ get_or-set_other w₃ p (o + 2) (corners_key t) 0 (λ e. omega arith)
      ∙ get_or-set_same w₂ (o + 2) t.c 0 (let l = long₂ in omega arith)

  at_key : get_or w₅ p 0 ≡ corners_key t
  at_key = get_or-set_other w₄ (p + 1) p left 0 (λ e. omega arith) ∙ get_or-set_same w₃ p (corners_key t) 0 (let l = long₃ in omega arith)

  at_place : get_or w₅ (p + 1) 0 ≡ left
  at_place = get_or-set_same w₄ (p + 1) left 0 (let l = long₄ in omega arith)

  facet_put : left_facet b n w₅ left ≡ t
  facet_put = let x = at_a in let y = at_b in let z = at_c in λ i. tri (x i) (y i) (z i)

  module _ (list : List (Triangle ℕ)) (L : LeftAre b n nc left w list) (B : Below (get_or w (b + 2 * n + 8 * nc) 0) t) where
    old : LeftAre b n nc left w₅ list
    old =
        left_frame b n nc left w w₅ list (omega arith)
        (λ j h. off (b + 2 * n + j) (λ e. omega arith) (λ e. omega arith) (λ e. omega arith) (λ e. omega arith) (λ e. omega arith))
        (λ j h. off (b + 2 * n + 3 * nc + j) (λ e. omega arith) (λ e. omega arith) (λ e. omega arith) (λ e. omega arith) (λ e. omega arith))
        (let e = put_top in omega arith) L

    each : (P : ℕ → Type 0) → ((j : ℕ) → j < left → P j) → P left → (j : ℕ) → j < left + 1 → P j
    each P f z j h = go (ℕ_discrete j left)
      where
        go : Dec (j ≡ left) → P j
        go (yes e) = subst P (sym e) z
        go (no d) = f j (omega arith)

    pub left_put : LeftAre b n nc (left + 1) w₅ (list ++ (t ∷ []))
    left_put =
        record {
          facets = map_more (left_facet b n w₅) left ∙ (λ i. old.facets i ++ (facet_put i ∷ []));
          keys = each (λ j. get_or w₅ (b + 2 * n + 3 * nc + 2 * j) 0 ≡ corners_key (left_facet b n w₅ j)) old.keys (at_key ∙ ap corners_key (sym facet_put));
          places = each (λ j. get_or w₅ (b + 2 * n + 3 * nc + 2 * j + 1) 0 ≡ j) old.places at_place;
          below = each (λ j. Below (get_or w₅ (b + 2 * n + 8 * nc) 0) (left_facet b n w₅ j)) old.below
              (subst (Below (get_or w₅ (b + 2 * n + 8 * nc) 0)) (sym facet_put)
              (subst (λ (k : ℕ). Below k t) (sym put_top) B));
        }

-- ---- one triangle

module _ (vs : List Float) (b n nc left : ℕ) (t r : Triangle ℕ) (w w₁ : List ℕ) (room : left < nc) (low : Below (count_at w) t)
    (e : NamesEntered b n nc (length vs / 3) (vertices t) w w₁) (N : NewNumbers b w₁ t r) where
  abbrev nv : ℕ
  nv = length vs / 3

  abbrev after : Named
  after = named_at b n nc nv (points_of vs) w₁

  low₁ : Below (count_at w₁) t
  low₁ = subst (λ (k : ℕ). Below k t) (sym (entered_count b n nc nv (vertices t) w w₁ e)) low

  pub append_below : Below (get_or w₁ (b + 2 * n + 8 * nc) 0) r
  append_below = numbers_below b n nc nv w₁ e.entering t r low₁ N

  pub append_small : Below 2097152 r
  append_small =
      let m = most_vertices b n nc nv w₁ e.entering in
      let E = e.entering in
      let c = E.count in
      let s = E.small in
      let f = E.few in
      below_more (get_or w₁ (b + 2 * n + 8 * nc) 0) 2097152 r (omega arith) append_below

  is_it : r ≡ mapped (new_number after) t
  is_it = numbers_are b n nc nv w₁ e.entering t r low₁ N (points_of vs) (length_points_of vs)

  still : (list : List (Triangle ℕ)) → LeftAre b n nc left w list → LeftAre b n nc left w₁ list
  still list L =
      left_frame b n nc left w w₁ list (omega arith) (λ j h. e.between (b + 2 * n + j) (omega arith) (omega arith))
      (λ j h. e.between (b + 2 * n + 3 * nc + j) (omega arith) (omega arith)) e.grows L

  pub appended_small : is_large after.points r ≡ false → Appended vs b n nc t left 0 w w₁
  appended_small small =
      record {
        entering = e.entering;
        above = record { long = e.long; below = e.below };
        named = e.named (points_of vs) (length_points_of vs);
        few = omega arith;
        more = λ list L.
            let q : left ≡ left + 0 = omega arith in
            let s : list ≡ list ++ keep (is_large after.points) (mapped (new_number after) t ∷ [])
            = sym (ap (λ (l : List (Triangle ℕ)). list ++ l) (keep_no (is_large after.points) (mapped (new_number after) t) [] (ap (is_large after.points) (sym is_it) ∙ small) ∙
            keep_nil (is_large after.points)) ∙ append-nil list) in
            subst (λ (k : ℕ). LeftAre b n nc k w₁ (list ++ keep (is_large after.points) (mapped (new_number after) t ∷ []))) q
            (subst (LeftAre b n nc left w₁) s (still list L));
      }

  pub appended_large : is_large after.points r ≡ true → Appended vs b n nc t left 1 w (put_left b n nc left r w₁)
  appended_large large =
      let s = e.entering.size in
      let long = put_long b n nc left w₁ r room s in
      let below = put_below b n nc left w₁ r room s in
      let top = put_top b n nc left w₁ r room s in
      let w₂ : List ℕ = put_left b n nc left r w₁ in
      let same : named_at b n nc nv (points_of vs) w₂ ≡ after = named_kept b n nc nv w₁ w₂ e.entering long below top (points_of vs) in
      record {
        entering = entering_kept b n nc nv w₁ w₂ e.entering long below top;
        above = record { long = long ∙ e.long; below = λ x h. below x (omega arith) ∙ e.below x h };
        named = same ∙ e.named (points_of vs) (length_points_of vs);
        few = omega arith;
        more = λ list L.
            subst (LeftAre b n nc (left + 1) w₂)
            (ap (λ (l : List (Triangle ℕ)). list ++ l)
            (sym (keep_yes (is_large after.points) r [] large ∙ ap (λ (l : List (Triangle ℕ)). r ∷ l) (keep_nil (is_large after.points)))
            ∙ ap (λ (f : Triangle ℕ). keep (is_large after.points) (f ∷ [])) is_it
            ∙ ap (λ (m : Named). keep (is_large m.points) (mapped (new_number m) t ∷ [])) (sym same)))
            (left_put b n nc left w₁ r room s list (still list L) append_below);
      }
