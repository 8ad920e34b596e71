-- The steps of closing together. Assumes nothing.
--   taken_is          the triangles that stand in the room are those of the definition
--   shaped_first, taking_first   they are as good as they must be
--   closed            what the three steps leave
use Prim.Native.Nat.{ℕ, ◌+◌, ◌*◌, ◌/◌, ◌%◌, ◌≤◌, ◌<◌}
use mathlib.Core.Path.{◌≡◌, refl, sym, ap, ◌∙◌, subst}
use mathlib.Core.Bool.{Bool, true, false, beq}
use mathlib.Core.List.{List, map, foldl}
use native.Mathlib.Decide.{ℕ_discrete}
use native.Mathlib.Omega.{arith}
use lib.Dec.{eqb}
use lib.ListN.{length, get_or, length-map}
use lib.Ieee.{Float}
use Rattle.lists.specs.Lists.{keep, distinct, up_to}
use Rattle.lists.proofs.Mapped.{Each, each_map}
use Rattle.geometry.specs.Triangles.{Triangle, tri, mapped, flat}
use Rattle.geometry.specs.Meshes.{points_of}
use Rattle.geometry.specs.FirstUse.{Named, new_number, enter}
use Rattle.mesh_filter.specs.Filters.{same_corners}
use Rattle.mesh_filter.specs.Room.{Below}
use Rattle.mesh_filter.proofs.Keys.{same_key_lem}
use Rattle.candidate_pool.specs.Offsets.{keys_at}
use Rattle.candidate_pool.specs.Pool.{Pool, point_of}
use Rattle.candidate_pool.specs.Standing.{count_at, pool_at}
use Rattle.candidate_edges.specs.Steps.{VerticesIn}
use Rattle.cap_triangles.specs.Selection.{Cap, caps_of, cap_at, outward, outward_caps}
use Rattle.cap_triangles.specs.Room.{components_at, seeded_at, closing_at, TurnedReady}
use Rattle.cap_triangles.proofs.Fours.{caps_length, outward_at}
use Rattle.cap_triangles.proofs.Good.{turned_corners, turned_low}
use Rattle.cap_selection.specs.Chosen.{chosen_in}
use Rattle.cap_closing.specs.Closing.{taken, is_large, cap_facets}
use Rattle.cap_closing.specs.Entering.{MeshWords, taken_in, facets_for, firsts_in, Closed}
use Rattle.cap_closing.specs.Steps.{point_in, named_at, NamesEntering, Shaped, left_facet, cap_at_room, is_taken, taken_at, Taking, Appending, is_first, bit, Started, Found}
use Rattle.cap_closing.proofs.Growth.{fold_cong}
use Rattle.cap_closing.proofs.Upwards.{map_keep_up, at_place}
use Rattle.cap_closing.proofs.Numbering.{most_vertices}
use Rattle.cap_closing.proofs.Corners.{point_below}
use Rattle.candidate_pool.proofs.Reading.{pool_count}
use Rattle.cap_closing.proofs.Entered.{entered, points_are, corners_are}
use Rattle.cap_closing.proofs.Remaining.{entering_kept, named_kept}
use Rattle.cap_closing.proofs.Turns.{cap_kept, taken_kept, taken_low}
use Rattle.cap_closing.proofs.Places.{distinct_places}
use Rattle.cap_closing.proofs.Beginning.{named_first, point_of_is}
use Rattle.records.specs.Buffer.{key_in}

module _ (n nf : ℕ) (cap_list : List ℕ) (w : List ℕ) (T : TurnedReady n nf cap_list w) where
  abbrev nc : ℕ
  nc = length cap_list / 4

  abbrev b : ℕ
  b = closing_at n nf nc

  abbrev pool : Pool
  pool = pool_at n w

  abbrev caps : List Cap
  caps = outward_caps pool (caps_of cap_list)

  long : length caps ≡ nc
  long = length-map (caps_of cap_list) (outward pool) ∙ caps_length cap_list

  pub taken_is : (positive : Bool) → taken_at n nf nc positive w nc ≡ taken_in n nf cap_list positive w
  unfolding taken
  taken_is positive =
      map_keep_up (cap_at_room n nf nc w) (λ i. (cap_at caps i).corners) (is_taken n nf nc positive w) (λ i. beq (get_or (chosen_in n nf nc w) i false) positive) nc
      (λ i h. turned_corners n nf cap_list w T i h ∙ ap (λ (t : Cap). t.corners) (sym (outward_at pool (caps_of cap_list) i (let e = caps_length cap_list in omega arith))))
      (λ i h. ap (λ (x : Bool). beq x positive) (sym (at_place (λ i. eqb (get_or w (seeded_at n nf nc + get_or w (components_at n nf nc + i) 0) 0) 1) false nc i h)))
      ∙ ap (λ (k : ℕ). map (λ i. (cap_at caps i).corners) (keep (λ i. beq (get_or (chosen_in n nf nc w) i false) positive) (up_to k))) (sym long)

  pub shaped_first : (vs : List Float) → VerticesIn vs → Shaped vs w
  shaped_first vs h = record { vertices = h; stored = T.supplied.pooled.stored }

  pub taking_first : ((i : ℕ) → i < nc → get_or w (components_at n nf nc + i) 0 < nc) → Taking n nf nc w
  taking_first parts = record { corners = λ i h. let l = turned_low n nf cap_list w T i h in record { a = l.0; b = l.1; c = l.2 }; parts = parts }

  module _ (vs : List Float) (few : length vs / 3 < 1048576) (words : MeshWords (length vs / 3) w)
      (parts : (i : ℕ) → i < nc → get_or w (components_at n nf nc + i) 0 < nc) (positive : Bool) (left found : ℕ) (w₁ w₂ w₃ : List ℕ)
      (S : Started b n nc (length vs / 3) w w₁) (P : Appending vs b n nf nc positive nc left w₁ w₂)
      (F : Found (b + 2 * n + 3 * nc) (b + 2 * n + 7 * nc) left found w₂ w₃) where
    abbrev nv : ℕ
    nv = length vs / 3

    abbrev ts : List (Triangle ℕ)
    ts = taken_in n nf cap_list positive w

    -- ---- the numbers given out

    low_pool : keys_at n ≤ b
    low_pool = omega arith

    size : b + 2 * n + 8 * nc < length w
    size = let s = T.supplied.size in omega arith

    same_taken : taken_at n nf nc positive w₁ nc ≡ ts
    same_taken =
        map_keep_up (cap_at_room n nf nc w₁) (cap_at_room n nf nc w) (is_taken n nf nc positive w₁) (is_taken n nf nc positive w) nc
        (cap_kept n nf nc w w₁ S.above) (taken_kept n nf nc w w₁ S.above positive (taking_first parts))
        ∙ taken_is positive

    point_is : (c : ℕ) → c < count_at w → point_in w₁ c ≡ point_of pool c
    point_is c h = point_below b n w w₁ low_pool S.above.below c (let f = T.supplied.pooled.few in omega arith) ∙ sym (point_of_is n w c h)

    ts_low : Each (λ v. v < count_at w) (flat ts)
    ts_low = subst (λ (l : List (Triangle ℕ)). Each (λ v. v < count_at w) (flat l)) (taken_is positive) (taken_low n nf nc positive w (taking_first parts) nc (omega arith))

    ts_in : Each (λ v. v < length pool.all) (flat ts)
    ts_in = subst (λ (k : ℕ). Each (λ v. v < k) (flat ts)) (sym (pool_count n w)) ts_low

    abbrev names : Named
    names = entered pool (points_of vs) ts

    named₂ : named_at b n nc nv (points_of vs) w₂ ≡ names
    named₂ =
        P.named
        ∙ (λ t. foldl (enter (point_in w₁)) (start t) (flat (same_taken t)))
        ∙ fold_cong (point_in w₁) (point_of pool) (record { given = map (λ c. c.mesh) pool.all; points = points_of vs }) (flat ts)
        (each_map (λ v. v < count_at w) (λ v. point_in w₁ v ≡ point_of pool v) point_is (flat ts) ts_low)
      where
        start : named_at b n nc nv (points_of vs) w₁ ≡ record { given = map (λ c. c.mesh) pool.all; points = points_of vs }
        start =
            let s = T.supplied in
            named_first b n nc nv w w₁ low_pool s.pooled.few size s.small s.caps few words S (points_of vs)

    below₃ : (x : ℕ) → x < b + 2 * n + 3 * nc → get_or w₃ x 0 ≡ get_or w₂ x 0
    below₃ = F.below

    top₃ : get_or w₃ (b + 2 * n + 8 * nc) 0 ≡ get_or w₂ (b + 2 * n + 8 * nc) 0
    top₃ = F.beyond (b + 2 * n + 8 * nc) (let l = P.few in omega arith)

    entering₃ : NamesEntering b n nc nv w₃
    entering₃ = entering_kept b n nc nv w₂ w₃ P.entering F.long (λ x h. below₃ x (omega arith)) top₃

    named₃ : named_at b n nc nv (points_of vs) w₃ ≡ names
    named₃ = named_kept b n nc nv w₂ w₃ P.entering F.long (λ x h. below₃ x (omega arith)) top₃ (points_of vs) ∙ named₂

    -- ---- the facets

    top_low : get_or w₂ (b + 2 * n + 8 * nc) 0 < 2097152
    top_low = let m = most_vertices b n nc nv w₂ P.entering in let c = P.entering.count in let s = P.entering.small in omega arith

    facet_low : (j : ℕ) → j < left → Below 2097152 (left_facet b n w₂ j)
    facet_low j h = let t = top_low in let B = P.facets.below j h in let x = B.a in let y = B.b in let z = B.c in record { a = omega arith; b = omega arith; c = omega arith }

    facet₃ : (j : ℕ) → j < left → left_facet b n w₃ j ≡ left_facet b n w₂ j
    facet₃ j h =
        let l = P.few in
        let x = below₃ (b + 2 * n + 3 * j) (omega arith) in
        let y = below₃ (b + 2 * n + 3 * j + 1) (omega arith) in
        let z = below₃ (b + 2 * n + 3 * j + 2) (omega arith) in
        λ t. tri (x t) (y t) (z t)

    abbrev key : ℕ → ℕ
    key = key_in w₂ (b + 2 * n + 3 * nc)

    alike : (i j : ℕ) → j < i → i < left → same_corners (left_facet b n w₂ i) (left_facet b n w₂ j) ≡ eqb (key j) (key i)
    alike i j h l =
        same_key_lem (left_facet b n w₂ i) (left_facet b n w₂ j) (facet_low i l) (facet_low j (omega arith))
        ∙ (λ t. eqb (sym (P.facets.keys j (omega arith)) t) (sym (P.facets.keys i l) t))

    marked : (x : Bool) → eqb (bit x) 1 ≡ x
    marked true = refl
    marked false = refl

    firsts_are : map (left_facet b n w₂) (keep (is_first key) (up_to left)) ≡ facets_for n nf cap_list positive vs w
    unfolding cap_facets
    firsts_are =
        sym (distinct_places same_corners (left_facet b n w₂) key left alike)
        ∙ ap (distinct same_corners)
        (P.facets.facets ∙ (λ t. keep (is_large (named₂ t).points) (map (mapped (new_number (named₂ t))) (same_taken t)))
        ∙ (λ t. keep (is_large (points_are pool (points_of vs) ts ts_in t)) (corners_are pool (points_of vs) ts ts_in t)))

    written : firsts_in n nf nc w₃ left ≡ facets_for n nf cap_list positive vs w
    written =
        map_keep_up (left_facet b n w₃) (left_facet b n w₂) (λ i. eqb (get_or w₃ (b + 2 * n + 7 * nc + i) 0) 1) (is_first key) left facet₃
        (λ i h. ap (λ (x : ℕ). eqb x 1) (F.marks i h) ∙ marked (is_first key i))
        ∙ firsts_are

    counted : found ≡ length (facets_for n nf cap_list positive vs w)
    counted = F.counted ∙ sym (length-map (keep (is_first key) (up_to left)) (left_facet b n w₂)) ∙ ap (length {A = Triangle ℕ}) firsts_are

    word_low : (q r j : ℕ) → j ≡ 3 * q + r → q < left → r < 3 → Dec (r ≡ 0) → Dec (r ≡ 1) → get_or w₃ (b + 2 * n + j) 0 < 2097152
    word_low q r j e h l (yes z) d =
        let f = P.few in
        let s : b + 2 * n + j ≡ b + 2 * n + 3 * q = omega arith in
        let x = ap (λ (k : ℕ). get_or w₃ k 0) s ∙ below₃ (b + 2 * n + 3 * q) (omega arith) in
        let y = (facet_low q h).a in
        omega arith
    word_low q r j e h l (no z) (yes o) =
        let f = P.few in
        let s : b + 2 * n + j ≡ b + 2 * n + 3 * q + 1 = omega arith in
        let x = ap (λ (k : ℕ). get_or w₃ k 0) s ∙ below₃ (b + 2 * n + 3 * q + 1) (omega arith) in
        let y = (facet_low q h).b in
        omega arith
    word_low q r j e h l (no z) (no o) =
        let f = P.few in
        let z' : (r ≡ 0 → ⊥) = z in
        let o' : (r ≡ 1 → ⊥) = o in
        let s : b + 2 * n + j ≡ b + 2 * n + 3 * q + 2 = omega arith in
        let x = ap (λ (k : ℕ). get_or w₃ k 0) s ∙ below₃ (b + 2 * n + 3 * q + 2) (omega arith) in
        let y = (facet_low q h).c in
        omega arith

    pub closed : Closed vs n nf cap_list positive left found w w₃
    closed =
        let E = entering₃ in
        let k : count_at w₃ ≤ n = E.count in
        record {
          above = record { long = F.long ∙ P.above.long ∙ S.above.long; below = λ x h. below₃ x (omega arith) ∙ P.above.below x h ∙ S.above.below x h };
          own = E.own;
          most = let m = most_vertices b n nc nv w₃ E in omega arith;
          fresh = λ i h. E.fresh i (omega arith);
          points = sym (points_are pool (points_of vs) ts ts_in) ∙ ap (λ (m : Named). m.points) (sym named₃);
          few = P.few;
          low = λ j h. word_low (j / 3) (j % 3) j (omega arith) (omega arith) (omega arith) (ℕ_discrete (j % 3) 0) (ℕ_discrete (j % 3) 1);
          facets = written;
          count = counted;
        }
