-- The loop over the triangles that the mode takes. Assumes nothing.
--   cap_kept, taken_kept, count_kept   a room that agrees below closing_at has the same triangles, and the mode takes the same
--   taking_kept, shaped_kept           and they are as good
--   taken_low                          the corners of those taken are candidates
--   appending_none                     no triangle is through
--   appending_turn                     one more, which the mode takes or not
use Prim.Native.Nat.{ℕ, ◌+◌, ◌*◌, ◌/◌, ◌≤◌, ◌<◌}
use mathlib.Core.Path.{◌≡◌, refl, sym, ap, subst, ◌∙◌}
use mathlib.Core.Bool.{Bool, true, false, beq}
use mathlib.Core.List.{List, [], ◌∷◌, ◌++◌, map, flat_map, foldl, foldl-append, map-append, append-nil}
use native.Mathlib.Omega.{arith}
use lib.Dec.{eqb}
use lib.ListN.{length, get_or}
use lib.Ieee.{Float, binary64, of_bits, to_bits}
use Rattle.lists.specs.Lists.{keep, up_from, up_to}
use Rattle.lists.specs.Regions.{Above}
use Rattle.lists.proofs.Counts.{keep_append}
use Rattle.lists.proofs.Mapped.{Each, each_keep}
use Rattle.lists.proofs.Multiplicity.{keep_yes, keep_no}
use Rattle.lists.proofs.Sequences.{flat_map_append, each_mapped}
use Rattle.geometry.specs.Triangles.{Triangle, tri, mapped, vertices, flat}
use Rattle.geometry.specs.Meshes.{points_of}
use Rattle.geometry.specs.FirstUse.{Named, new_number, enter}
use Rattle.geometry.proofs.Meshes.{length_points_of}
use Rattle.mesh_filter.specs.Room.{Below}
use Rattle.candidate_pool.specs.Offsets.{entry_at}
use Rattle.candidate_pool.specs.Standing.{count_at, PointIn, PointStored}
use Rattle.cap_triangles.specs.Room.{turned_at, components_at, seeded_at, closing_at}
use Rattle.cap_closing.specs.Closing.{is_large}
use Rattle.cap_closing.specs.Steps.{point_in, named_at, NamesEntering, Shaped, left_facet, LeftAre, Appended, cap_at_room, is_taken, taken_at, Taking, Turned, Appending}
use Rattle.cap_closing.proofs.Growth.{Grown, grown_fold, fold_has, fold_cong, Corners, flat_each, each_flat, kept_left}
use Rattle.cap_closing.proofs.Upwards.{keep_nil, keep_more, each_up}
use Rattle.cap_closing.proofs.Numbering.{given_long, sound_at}
use Rattle.cap_closing.proofs.Corners.{point_below}

-- ---- what stands below closing_at

module _ (n nf nc : ℕ) (w w' : List ℕ) (A : Above (closing_at n nf nc) w w') where
  pub count_kept : count_at w' ≡ count_at w
  count_kept = A.below 6 (omega arith)

  pub cap_kept : (i : ℕ) → i < nc → cap_at_room n nf nc w' i ≡ cap_at_room n nf nc w i
  cap_kept i h =
      let x = A.below (turned_at n nf + 3 * i) (omega arith) in
      let y = A.below (turned_at n nf + 3 * i + 1) (omega arith) in
      let z = A.below (turned_at n nf + 3 * i + 2) (omega arith) in
      λ t. tri (x t) (y t) (z t)

  part_kept : (i : ℕ) → i < nc → get_or w' (components_at n nf nc + i) 0 ≡ get_or w (components_at n nf nc + i) 0
  part_kept i h = A.below (components_at n nf nc + i) (omega arith)

  pub taken_kept : (positive : Bool) → Taking n nf nc w → (i : ℕ) → i < nc → is_taken n nf nc positive w' i ≡ is_taken n nf nc positive w i
  taken_kept positive K i h =
      let l = K.parts i h in
      let e = part_kept i h in
      ap (λ (k : ℕ). beq (eqb (get_or w' (seeded_at n nf nc + k) 0) 1) positive) e
      ∙ ap (λ (x : ℕ). beq (eqb x 1) positive) (A.below (seeded_at n nf nc + get_or w (components_at n nf nc + i) 0) (omega arith))

  pub taking_kept : Taking n nf nc w → Taking n nf nc w'
  taking_kept K =
      record {
        corners = λ i h. subst (Below (count_at w')) (sym (cap_kept i h)) (subst (λ (k : ℕ). Below k (cap_at_room n nf nc w i)) (sym count_kept) (K.corners i h));
        parts = λ i h. let e = part_kept i h in let l = K.parts i h in omega arith;
      }

  pub shaped_kept : (vs : List Float) → count_at w ≤ n → Shaped vs w → Shaped vs w'
  shaped_kept vs few S = record { vertices = S.vertices; stored = λ c h. stored c (let e = count_kept in omega arith) }
    where
      stored : (c : ℕ) → c < count_at w → PointStored w' (entry_at c)
      stored c h =
          let s = S.stored c h in
          let x = A.below (entry_at c) (omega arith) in
          let y = A.below (entry_at c + 1) (omega arith) in
          let z = A.below (entry_at c + 2) (omega arith) in
          record {
            x = subst (λ (k : ℕ). to_bits binary64 (of_bits binary64 k) ≡ k) (sym x) s.x;
            y = subst (λ (k : ℕ). to_bits binary64 (of_bits binary64 k) ≡ k) (sym y) s.y;
            z = subst (λ (k : ℕ). to_bits binary64 (of_bits binary64 k) ≡ k) (sym z) s.z;
            within = subst PointIn (sym (point_below (closing_at n nf nc) n w w' (omega arith) A.below c (omega arith))) s.within;
          }

-- ---- the triangles taken so far

module _ (n nf nc : ℕ) (positive : Bool) (w : List ℕ) where
  taken_skip : (i : ℕ) → is_taken n nf nc positive w i ≡ false → taken_at n nf nc positive w (i + 1) ≡ taken_at n nf nc positive w i
  taken_skip i h =
      ap (map (cap_at_room n nf nc w))
      (keep_more (is_taken n nf nc positive w) i
      ∙ ap (λ (l : List ℕ). keep (is_taken n nf nc positive w) (up_to i) ++ l) (keep_no (is_taken n nf nc positive w) i [] h ∙ keep_nil (is_taken n nf nc positive w))
      ∙ append-nil (keep (is_taken n nf nc positive w) (up_to i)))

  taken_more : (i : ℕ) → is_taken n nf nc positive w i ≡ true → taken_at n nf nc positive w (i + 1) ≡ taken_at n nf nc positive w i ++ (cap_at_room n nf nc w i ∷ [])
  taken_more i h =
      ap (map (cap_at_room n nf nc w))
      (keep_more (is_taken n nf nc positive w) i
      ∙ ap (λ (l : List ℕ). keep (is_taken n nf nc positive w) (up_to i) ++ l)
      (keep_yes (is_taken n nf nc positive w) i [] h ∙ ap (λ (l : List ℕ). i ∷ l) (keep_nil (is_taken n nf nc positive w))))
      ∙ map-append (cap_at_room n nf nc w) (keep (is_taken n nf nc positive w) (up_to i)) (i ∷ [])

  pub taken_low : Taking n nf nc w → (i : ℕ) → i ≤ nc → Each (λ v. v < count_at w) (flat (taken_at n nf nc positive w i))
  taken_low K i h =
      flat_each (λ v. v < count_at w) (taken_at n nf nc positive w i)
      (each_mapped (Corners (λ v. v < count_at w)) (cap_at_room n nf nc w) (keep (is_taken n nf nc positive w) (up_to i))
      (each_keep (is_taken n nf nc positive w) (λ j. Corners (λ v. v < count_at w) (cap_at_room n nf nc w j)) (up_to i)
      (each_up (λ j. Corners (λ v. v < count_at w) (cap_at_room n nf nc w j)) i (λ j l. let B = K.corners j (omega arith) in (B.a, (B.b, B.c))))))

flat_more : (ts : List (Triangle ℕ)) (t : Triangle ℕ) → flat (ts ++ (t ∷ [])) ≡ flat ts ++ vertices t
unfolding flat_map
flat_more ts t = flat_map_append vertices ts (t ∷ [])

-- ---- the loop

module _ (vs : List Float) (n nf nc : ℕ) (positive : Bool) (w : List ℕ) (E : NamesEntering (closing_at n nf nc) n nc (length vs / 3) w) (K : Taking n nf nc w) where
  abbrev b : ℕ
  b = closing_at n nf nc

  abbrev nv : ℕ
  nv = length vs / 3

  abbrev names : List ℕ → Named
  names u = named_at b n nc nv (points_of vs) u

  abbrev lefts : Named → List (Triangle ℕ) → List (Triangle ℕ)
  lefts m ts = keep (is_large m.points) (map (mapped (new_number m)) ts)

  nothing_taken : taken_at n nf nc positive w 0 ≡ []
  unfolding up_from
  nothing_taken = refl

  pub appending_none : Appending vs b n nf nc positive 0 0 w w
  unfolding flat_map up_from
  appending_none =
      record {
        entering = E;
        above = record { long = refl; below = λ x h. refl };
        named = sym (ap (λ (l : List (Triangle ℕ)). foldl (enter (point_in w)) (names w) (flat l)) nothing_taken ∙ nothing_flat);
        few = omega arith;
        facets = subst (LeftAre b n nc 0 w) (sym (ap (lefts (names w)) nothing_taken ∙ keep_nil (is_large (names w).points)))
            (record { facets = nothing_up; keys = λ j h. absurd (omega arith); places = λ j h. absurd (omega arith); below = λ j h. absurd (omega arith) });
      }
    where
      nothing_flat : foldl (enter (point_in w)) (names w) (flat []) ≡ names w
      nothing_flat = refl

      nothing_up : map (left_facet b n w) (up_to 0) ≡ []
      nothing_up = refl

  module _ (i left : ℕ) (w' : List ℕ) (h : i < nc) (P : Appending vs b n nf nc positive i left w w') where
    appending_skip : is_taken n nf nc positive w i ≡ false → Appending vs b n nf nc positive (i + 1) left w w'
    appending_skip s =
        let e = sym (taken_skip n nf nc positive w i s) in
        record {
          entering = P.entering;
          above = P.above;
          named = P.named ∙ ap (λ (l : List (Triangle ℕ)). foldl (enter (point_in w)) (names w) (flat l)) e;
          few = let l = P.few in omega arith;
          facets = subst (LeftAre b n nc left w') (ap (lefts (names w')) e) P.facets;
        }

    module _ (r : ℕ) (w'' : List ℕ) (s : is_taken n nf nc positive w i ≡ true) (Q : Appended vs b n nc (cap_at_room n nf nc w' i) left r w' w'') where
      abbrev ts : List (Triangle ℕ)
      ts = taken_at n nf nc positive w i

      abbrev t : Triangle ℕ
      t = cap_at_room n nf nc w i

      same_cap : cap_at_room n nf nc w' i ≡ t
      same_cap = cap_kept n nf nc w w' P.above i h

      turned : names w'' ≡ foldl (enter (point_in w')) (names w') (vertices t)
      turned = Q.named ∙ ap (λ (u : Triangle ℕ). foldl (enter (point_in w')) (names w') (vertices u)) same_cap

      on_point : (c : ℕ) → c < count_at w → point_in w' c ≡ point_in w c
      on_point c l = point_below b n w w' (omega arith) P.above.below c (let f = E.count in omega arith)

      named_more : names w'' ≡ foldl (enter (point_in w)) (names w) (flat (taken_at n nf nc positive w (i + 1)))
      named_more =
          let B = K.corners i h in
          turned
          ∙ fold_cong (point_in w') (point_in w) (names w') (vertices t) (on_point t.a B.a, (on_point t.b B.b, (on_point t.c B.c, tt)))
          ∙ ap (λ (m : Named). foldl (enter (point_in w)) m (vertices t)) P.named
          ∙ sym (foldl-append (enter (point_in w)) (names w) (flat ts) (vertices t))
          ∙ ap (λ (l : List ℕ). foldl (enter (point_in w)) (names w) l) (sym (flat_more ts t))
          ∙ ap (λ (l : List (Triangle ℕ)). foldl (enter (point_in w)) (names w) (flat l)) (sym (taken_more n nf nc positive w i s))

      grown : Grown (names w') (names w'')
      grown = subst (Grown (names w')) (sym turned) (grown_fold (point_in w') (names w') (vertices t))

      numbered : Each (Corners (λ v. 0 < get_or (names w').given v 0)) ts
      numbered =
          each_flat (λ v. 0 < get_or (names w').given v 0) ts
          (subst (λ (m : Named). Each (λ v. 0 < get_or m.given v 0) (flat ts)) (sym P.named)
          (fold_has (point_in w) (names w) (flat ts)
          (subst (λ (k : ℕ). Each (λ v. v < k) (flat ts)) (sym (given_long b n nc nv w E (points_of vs) (length_points_of vs))) (taken_low n nf nc positive w K i (omega arith)))))

      left_more : lefts (names w') ts ++ keep (is_large (names w'').points) (mapped (new_number (names w'')) (cap_at_room n nf nc w' i) ∷ [])
          ≡ lefts (names w'') (taken_at n nf nc positive w (i + 1))
      left_more =
          (λ x. sym (kept_left (names w') (names w'') grown (sound_at b n nc nv w' P.entering (points_of vs) (length_points_of vs)) ts numbered) x
          ++ keep (is_large (names w'').points) (mapped (new_number (names w'')) (same_cap x) ∷ []))
          ∙ sym (keep_append (is_large (names w'').points) (map (mapped (new_number (names w''))) ts) (mapped (new_number (names w'')) t ∷ []))
          ∙ ap (keep (is_large (names w'').points)) (sym (map-append (mapped (new_number (names w''))) ts (t ∷ [])))
          ∙ ap (lefts (names w'')) (sym (taken_more n nf nc positive w i s))

      appending_more : Appending vs b n nf nc positive (i + 1) (left + r) w w''
      appending_more =
          record {
            entering = Q.entering;
            above = record { long = Q.above.long ∙ P.above.long; below = λ x l. Q.above.below x l ∙ P.above.below x l };
            named = named_more;
            few = let l = P.few in let m = Q.few in omega arith;
            facets = subst (LeftAre b n nc (left + r) w'') left_more (Q.more (lefts (names w') ts) P.facets);
          }

    pub appending_turn : (r : ℕ) (w'' : List ℕ) → Turned vs b n nf nc positive i left r w' w'' → Appending vs b n nf nc positive (i + 1) (left + r) w w''
    appending_turn r w'' t = go (is_taken n nf nc positive w' i) refl
      where
        same : is_taken n nf nc positive w' i ≡ is_taken n nf nc positive w i
        same = taken_kept n nf nc w w' P.above positive K i h

        go : (x : Bool) → is_taken n nf nc positive w' i ≡ x → Appending vs b n nf nc positive (i + 1) (left + r) w w''
        go true e = appending_more r w'' (sym same ∙ e) (t.appended e)
        go false e =
            let s = t.skipped e in
            let z : left ≡ left + r = (let q = s.1 in omega arith) in
            subst (Appending vs b n nf nc positive (i + 1) (left + r) w) (sym s.0)
            (subst (λ (k : ℕ). Appending vs b n nf nc positive (i + 1) k w w') z (appending_skip (sym same ∙ e)))
