-- One facet more is numbered, or dropped; the first facet and the last. Assumes nothing.
use Prim.Native.Nat.{ℕ, zero, suc, ◌+◌, ◌*◌, ◌≤◌, ◌<◌}
use Rattle.std.proofs.Common.{add-zero, append_assoc}
use native.Mathlib.Numerals.{add-one}
use native.Mathlib.Omega.{arith}
use mathlib.Core.Path.{◌≡◌, refl, sym, ap, subst, ◌∙◌}
use mathlib.Core.Bool.{Bool, true, false, cond}
use mathlib.Core.List.Memᴰ
use mathlib.Core.List.{List, [], ◌∷◌, ◌++◌, map, map-append, append-nil, flat_map, Memᴰ}
use lib.Dec.{leb}
use lib.ListN.{length, get_or, take, length-append, replicate, length-replicate, get_or-replicate}
use lib.Seq.{ext_get_or}
use Rattle.lists.specs.Lists.{keep, up_from, up_to}
use Rattle.lists.specs.Regions.{view, PartZeroed}
use Rattle.lists.proofs.Regions.{view_length, view_at}
use Rattle.lists.proofs.Counts.{keep_append}
use Rattle.lists.proofs.Sequences.{up_snoc}
use Rattle.geometry.specs.declared.point.Point.{Point}
use Rattle.geometry.specs.Triangles.{tri, vertices, flat, corners_at}
use Rattle.geometry.proofs.Threes.{flat_append}
use Rattle.mesh_compact.specs.declared.numbered.Numbered.{Numbered}
use Rattle.mesh_compact.specs.Room.{numbering, is_large_at, kept_corners, Pointed, Naming, Cornered, Faceted, RenumberRoom, FacetNumbered, NumberedSoFar}

-- ---- the three corners of a facet

pub pointed_same : (point : ℕ → Point) (points : List Point) (top kept u : ℕ) (m v : List ℕ) → get_or v (kept + u) 0 ≡ get_or m (kept + u) 0 → Pointed point points top kept u m →
    Pointed point points top kept u v
pointed_same point points top kept u m v e P = record { is = P.is ∙ ap point (sym e); low = rw e P.low }

one_corner : (kept at n k v : ℕ) (l : List ℕ) (w x y : Numbered) (m m₁ m₂ : List ℕ) → kept + n ≤ at → v < n
    → Faceted kept at n k l w x m m₁ → Cornered kept at n k v x y m₁ m₂ → Faceted kept at n k (l ++ (v ∷ [])) w y m m₂
one_corner kept at n k v l w x y m m₁ m₂ below vn A B =
    record {
      corners = let p = A.corners in let q = B.corners in omega (arith, length-append l (v ∷ []));
      rest = λ i q. B.rest i q ∙ A.rest i q;
      naming = λ point points top cs P N.
          subst (λ (r : List ℕ). Naming point points top at n k y.vertices y.corners r m₂) (append_assoc cs l (v ∷ []))
          (B.naming point points top (cs ++ l) (pointed_same point points top kept v m m₁ (A.rest (kept + v) (omega arith)) (P v vn)) (A.naming point points top cs P N));
    }

-- no corner, and the three of a facet
no_corner : (kept at n k : ℕ) (w : Numbered) (m : List ℕ) → Faceted kept at n k [] w w m m
no_corner kept at n k w m =
    record {
      corners = omega arith;
      rest = λ i q. refl;
      naming = λ point points top cs P N. subst (λ (l : List ℕ). Naming point points top at n k w.vertices w.corners l m) (sym (append-nil cs)) N;
    }

module _ (kept at n k : ℕ) (a b c : ℕ) (w x y z : Numbered) (m m₁ m₂ m₃ : List ℕ) (below : kept + n ≤ at) (an : a < n) (bn : b < n) (cn : c < n)
    (A : Cornered kept at n k a w x m m₁) (B : Cornered kept at n k b x y m₁ m₂) (C : Cornered kept at n k c y z m₂ m₃) where
  pub faceted : Faceted kept at n k (a ∷ b ∷ c ∷ []) w z m m₃
  faceted =
      one_corner kept at n k c (a ∷ b ∷ []) w y z m m₂ m₃ below cn
      (one_corner kept at n k b (a ∷ []) w x y m m₁ m₂ below bn (one_corner kept at n k a [] w w x m m m₁ below an (no_corner kept at n k w m) A) B) C

-- the corners of a facet, one after the other
next_corner : (m : List ℕ) (o j : ℕ) → j < 3 → take j (vertices (corners_at m o)) ++ (get_or m (o + j) 0 ∷ []) ≡ take (j + 1) (vertices (corners_at m o))
next_corner m o zero h = rw (add-zero o) refl
next_corner m o (suc zero) h = refl
next_corner m o (suc (suc zero)) h = refl
next_corner m o (suc (suc (suc j))) h = absurd (omega arith)

-- the corner at j, read from a room in which those before it were numbered
module _ (kept facets parts k at n : ℕ) (m v : List ℕ) (R : RenumberRoom kept facets parts k at n m) (i j : ℕ) (ik : i < k) (jk : j < 3) (w x : Numbered)
    (F : Faceted kept at n k (take j (vertices (corners_at m (facets + 3 * i)))) w x m v) (u : ℕ) (e : u ≡ get_or v (facets + 3 * i + j) 0) where
  same_corner : u ≡ get_or m (facets + 3 * i + j) 0
  same_corner = e ∙ F.rest (facets + 3 * i + j) (let p = R.facets_in in omega arith)

  pub corner_low : u < n
  corner_low =
      let z : facets + 3 * i + j ≡ facets + (3 * i + j) = omega arith in
      rw (same_corner, z) (R.corner (3 * i + j) (omega arith))

  pub facet_more : (y : Numbered) (t : List ℕ) → Cornered kept at n k u x y v t → Faceted kept at n k (take (j + 1) (vertices (corners_at m (facets + 3 * i)))) w y m t
  facet_more y t C =
      subst (λ (l : List ℕ). Faceted kept at n k l w y m t) (ap (λ (q : ℕ). take j (vertices (corners_at m (facets + 3 * i))) ++ (q ∷ [])) same_corner ∙ next_corner m (facets + 3 * i) j jk)
      (one_corner kept at n k u (take j (vertices (corners_at m (facets + 3 * i)))) w x y m v t R.kept_in corner_low F C)

-- ---- a facet dropped, or numbered

module _ (kept facets parts k at n least i : ℕ) (w : Numbered) (m : List ℕ) (within : w.corners ≤ 3 * i) where
  pub passed_over_lem : is_large_at m parts k least i ≡ false → FacetNumbered kept facets parts k at n least i w w m m
  passed_over_lem e =
      record {
        within = omega arith;
        rest = λ x q. refl;
        naming = λ point points top cs P N.
            subst (λ (b : Bool). Naming point points top at n k w.vertices w.corners (cs ++ cond b (vertices (corners_at m (facets + 3 * i))) []) m) (sym e)
            (subst (λ (l : List ℕ). Naming point points top at n k w.vertices w.corners l m) (sym (append_nil cs)) N);
      }
    where
      append_nil : (l : List ℕ) → l ++ [] ≡ l
      append_nil [] = refl
      append_nil (x ∷ l) = ap (λ (r : List ℕ). x ∷ r) (append_nil l)

  pub numbered : is_large_at m parts k least i ≡ true → (r : Numbered) (v : List ℕ) → Faceted kept at n k (vertices (corners_at m (facets + 3 * i))) w r m v
      → FacetNumbered kept facets parts k at n least i w r m v
  numbered e r v F =
      record {
        within = let c = F.corners in omega arith;
        rest = F.rest;
        naming = λ point points top cs P N.
            subst (λ (b : Bool). Naming point points top at n k r.vertices r.corners (cs ++ cond b (vertices (corners_at m (facets + 3 * i))) []) v) (sym e)
            (F.naming point points top cs P N);
      }

-- ---- the corners kept, one facet more

module _ (facets parts k least : ℕ) (m : List ℕ) where
  one_more : (b : Bool) (i : ℕ) → is_large_at m parts k least i ≡ b → flat (map (λ j. corners_at m (facets + 3 * j)) (keep (is_large_at m parts k least) (i ∷ []))) ≡ cond b
      (vertices (corners_at m (facets + 3 * i))) []
  unfolding flat_map
  one_more true i e = rw e
  one_more false i e = rw e

  pub corners_more : (i : ℕ) → kept_corners m facets parts k least (i + 1) ≡ kept_corners m facets parts k least i ++ cond (is_large_at m parts k least i)
      (vertices (corners_at m (facets + 3 * i))) []
  corners_more i =
      ap (λ (l : List ℕ). flat (map (λ j. corners_at m (facets + 3 * j)) (keep (is_large_at m parts k least) l))) (up_snoc i)
      ∙ ap (λ (l : List ℕ). flat (map (λ j. corners_at m (facets + 3 * j)) l)) (keep_append (is_large_at m parts k least) (up_to i) (i ∷ []))
      ∙ ap flat (map-append (λ j. corners_at m (facets + 3 * j)) (keep (is_large_at m parts k least) (up_to i)) (keep (is_large_at m parts k least) (i ∷ [])))
      ∙ flat_append (map (λ j. corners_at m (facets + 3 * j)) (keep (is_large_at m parts k least) (up_to i)))
      (map (λ j. corners_at m (facets + 3 * j)) (keep (is_large_at m parts k least) (i ∷ [])))
      ∙ ap (λ (l : List ℕ). kept_corners m facets parts k least i ++ l) (one_more (is_large_at m parts k least i) i refl)

-- ---- a room that is as it was below the table

module _ (kept facets parts k at n : ℕ) (m v : List ℕ) (R : RenumberRoom kept facets parts k at n m) (len : length v ≡ length m) (rest : (x : ℕ) → x < at → get_or v x 0 ≡ get_or m x 0)
  where
    pub still_room : RenumberRoom kept facets parts k at n v
    still_room = record {
      few = R.few;
      small = R.small;
      kept_in = R.kept_in;
      facets_in = R.facets_in;
      parts_in = R.parts_in;
      all_in = let q = R.all_in in omega arith;
      corner = λ j h. rw (rest (facets + j) (let q = R.facets_in in omega arith)) (R.corner j h);
      part = λ i h. rw (rest (parts + i) (let q = R.parts_in in omega arith)) (R.part i h);
    }

    large_same : (least i : ℕ) → i < k → is_large_at v parts k least i ≡ is_large_at m parts k least i
    large_same least i h =
        ap (λ (x : ℕ). leb least (get_or v (parts + k + x) 0)) (rest (parts + i) (let q = R.parts_in in omega arith))
        ∙ ap (leb least) (rest (parts + k + get_or m (parts + i) 0) (let q = R.parts_in in let p = R.part i h in omega arith))

    facet_same : (i : ℕ) → i < k → corners_at v (facets + 3 * i) ≡ corners_at m (facets + 3 * i)
    facet_same i h =
        λ t. tri (rest (facets + 3 * i) (let q = R.facets_in in omega arith) t) (rest (facets + 3 * i + 1) (let q = R.facets_in in omega arith) t)
        (rest (facets + 3 * i + 2) (let q = R.facets_in in omega arith) t)

    turn_same : (least i : ℕ) → i < k → cond (is_large_at v parts k least i) (vertices (corners_at v (facets + 3 * i))) [] ≡ cond (is_large_at m parts k least i)
        (vertices (corners_at m (facets + 3 * i))) []
    turn_same least i h = λ t. cond (large_same least i h t) (vertices (facet_same i h t)) []

    corners_same : (least i : ℕ) → i ≤ k → kept_corners v facets parts k least i ≡ kept_corners m facets parts k least i
    unfolding up_from flat_map
    corners_same least zero h = refl
    corners_same least (suc i) h =
        ap (kept_corners v facets parts k least) (sym (add-one i))
        ∙ corners_more facets parts k least v i
        ∙ (λ t. corners_same least i (omega arith) t ++ turn_same least i (omega arith) t)
        ∙ sym (corners_more facets parts k least m i)
        ∙ ap (kept_corners m facets parts k least) (add-one i)

    -- ---- a turn of the loop

    pub going_on : (least i : ℕ) (w r : Numbered) (u : List ℕ) → i < k → NumberedSoFar kept facets parts k at n least i w m v → FacetNumbered kept facets parts k at n least i w r v u
        → NumberedSoFar kept facets parts k at n least (i + 1) r m u
    going_on least i w r u h G T =
        record {
          done = omega arith;
          within = T.within;
          rest = λ x q. T.rest x q ∙ rest x q;
          naming = λ point points top e P.
              subst (λ (l : List ℕ). Naming point points top at n k r.vertices r.corners l u)
              (ap (λ (l : List ℕ). kept_corners m facets parts k least i ++ l) (turn_same least i h) ∙ sym (corners_more facets parts k least m i))
              (T.naming point points top (kept_corners m facets parts k least i)
              (λ x q. pointed_same point points top kept x m v (rest (kept + x) (let p = R.kept_in in omega arith)) (P x q)) (G.naming point points top e P));
        }

    -- the same, told from the room before it was cleared
    pub going_from : (least i : ℕ) (w : Numbered) (u : List ℕ) → NumberedSoFar kept facets parts k at n least i w v u → NumberedSoFar kept facets parts k at n least i w m u
    going_from least i w u G =
        record {
          done = G.done;
          within = G.within;
          rest = λ x q. G.rest x q ∙ rest x q;
          naming = λ point points top e P.
              subst (λ (l : List ℕ). Naming point points top at n k w.vertices w.corners l u) (corners_same least i G.done)
              (G.naming point points top e (λ x q. pointed_same point points top kept x m v (rest (kept + x) (let p = R.kept_in in omega arith)) (P x q)));
        }

-- ---- the first facet

pub going_start : (kept facets parts k at n least : ℕ) (w : Numbered) (m v : List ℕ) → w.vertices ≡ 0 → w.corners ≡ 0 → at + n ≤ length m → PartZeroed m v at n
    → NumberedSoFar kept facets parts k at n least 0 w v v
unfolding numbering up_from flat_map
going_start kept facets parts k at n least w m v ea ec room z =
    record {
      done = omega arith;
      within = omega arith;
      rest = λ x q. refl;
      naming = λ point points top e P.
          subst (λ (a : ℕ). Naming point points top at n k a w.corners [] v) (sym ea)
          (subst (λ (c : ℕ). Naming point points top at n k 0 c [] v) (sym ec)
          (record {
            given = zeros ∙ ap (λ (x : ℕ). replicate x 0) (sym e);
            used = refl;
            numbers = refl;
            named = λ u q. absurd (no_member q);
            low = λ j h. absurd (omega arith);
            ranked = λ u h. rw (z.zero u h) (omega arith);
            small = λ j h. absurd (omega arith);
          }));
    }
  where
    no_member : {u : ℕ} → Memᴰ u [] → ⊥
    no_member q = Memᴰ.not-nil q

    long : length (view v at n) ≡ n
    long = view_length v at n (let e = z.long in omega arith)

    zeros : view v at n ≡ replicate n 0
    zeros =
        ext_get_or 0 (view v at n) (replicate n 0) (long ∙ sym (length-replicate {A = ℕ} n 0))
        (λ i h. let h' : i < n = omega (arith, long) in view_at v at n i h' ∙ z.zero i h' ∙ sym (get_or-replicate n i 0 0 h'))

pub going_end : (kept facets parts k at n least i : ℕ) (w : Numbered) (m u : List ℕ) → NumberedSoFar kept facets parts k at n least i w m u → k ≤ i → NumberedSoFar kept facets
    parts k at n least k w m u
going_end kept facets parts k at n least i w m u G h = let e : i ≡ k = omega (arith, G.done) in subst (λ (j : ℕ). NumberedSoFar kept facets parts k at n least j w m u) e G
