-- What is written, as lists that are written one after the other. Assumes nothing.
--   threes_map                    triangles by their places
--   fresh_block, fresh_are         the points of candidates that became new vertices       fresh_long   how many numbers they are
--   reversed_block, reversed_are   facets with their last two corners swapped
--   own_positive, own_negative, own_long   the mesh's own facets, as the mode writes them
--   cap_taken, cap_left           a facet left, by its word
--   cap_block, caps_are            those that are the first of their three corners
use Prim.Native.Nat.{ℕ, ◌+◌, ◌*◌, ◌/◌, ◌%◌, ◌<◌}
use native.Mathlib.Omega.{arith}
use mathlib.Core.Bool.{Bool, true, false, cond}
use mathlib.Core.Path.{◌≡◌, refl, sym, ap, ◌∙◌}
use mathlib.Core.List.{List, [], ◌∷◌, map, flat_map}
use borrow.Author.Tests.{eq-eqb, ne_eqb}
use lib.Dec.{eqb}
use lib.ListN.{length, get_or, length-map}
use lib.Seq.{ext_get_or}
use lib.Ieee.{Float}
use Rattle.lists.specs.Lists.{keep, up_to}
use Rattle.lists.proofs.Bools.{cond_true, cond_false}
use Rattle.lists.proofs.Places.{length_up, at_map_up}
use Rattle.lists.proofs.Sequences.{flat_map_lem, flat_keep}
use Rattle.geometry.specs.declared.point.Point.{Point}
use Rattle.geometry.specs.Triangles.{Triangle, tri, vertices, reversed, threes, flat}
use Rattle.geometry.specs.Meshes.{coordinates}
use Rattle.geometry.proofs.Threes.{length_threes, threes_at_lem, length_flat, flat_threes}
use Rattle.geometry.proofs.Meshes.{length_coordinates}
use Rattle.candidate_pool.specs.Offsets.{entry_at}
use Rattle.candidate_pool.specs.Standing.{point_at}
use Rattle.cap_closing.specs.Closing.{own_facets}
use Rattle.cap_outputs.specs.Written.{points_in, cap_words, all_cap_words}

-- ---- points

abbrev pub three : Point → List Float
three p = p.x ∷ p.y ∷ p.z ∷ []

abbrev pub fresh_block : List ℕ → List ℕ → ℕ → List Float
fresh_block w fresh i = three (point_at w (entry_at (get_or fresh i 0)))

module _ (w fresh : List ℕ) where
  by_places : map (λ i. get_or fresh i 0) (up_to (length fresh)) ≡ fresh
  by_places =
      let long : length (map (λ i. get_or fresh i 0) (up_to (length fresh))) ≡ length fresh = length-map (up_to (length fresh)) (λ i. get_or fresh i 0) ∙ length_up 0 (length fresh) in
      ext_get_or 0 (map (λ i. get_or fresh i 0) (up_to (length fresh))) fresh long
      (λ j h. at_map_up (λ i. get_or fresh i 0) 0 0 (length fresh) j (omega (arith, h, long)) ∙ ap (λ (i : ℕ). get_or fresh i 0) (omega arith))

  pub fresh_are : flat_map (fresh_block w fresh) (up_to (length fresh)) ≡ coordinates (points_in w fresh)
  fresh_are =
      sym
      (ap (λ (l : List ℕ). coordinates (points_in w l)) (sym by_places)
      ∙ flat_map_lem three (λ c. point_at w (entry_at c)) (map (λ i. get_or fresh i 0) (up_to (length fresh)))
      ∙ flat_map_lem (λ c. three (point_at w (entry_at c))) (λ i. get_or fresh i 0) (up_to (length fresh)))

  pub fresh_long : length (coordinates (points_in w fresh)) ≡ 3 * length fresh
  fresh_long = length_coordinates (points_in w fresh) ∙ ap (λ (x : ℕ). 3 * x) (length-map fresh (λ c. point_at w (entry_at c)))

-- ---- facets

abbrev three_of : List ℕ → ℕ → Triangle ℕ
three_of l i = tri (get_or l (3 * i) 0) (get_or l (3 * i + 1) 0) (get_or l (3 * i + 2) 0)

pub threes_map : (l : List ℕ) → threes l ≡ map (λ i. tri (get_or l (3 * i) 0) (get_or l (3 * i + 1) 0) (get_or l (3 * i + 2) 0)) (up_to (length l / 3))
threes_map l =
    let e = length_threes l in
    ext_get_or (tri 0 0 0) (threes l) (map (three_of l) (up_to (length l / 3))) (e ∙ sym (length-map (up_to (length l / 3)) (three_of l) ∙ length_up 0 (length l / 3)))
    (λ i k. let h : i < length l / 3 = omega (arith, e) in
    threes_at_lem l i (tri 0 0 0) 0 (omega arith) ∙ sym (at_map_up (three_of l) (tri 0 0 0) 0 (length l / 3) i h ∙ first i))
  where
    first : (i : ℕ) → three_of l (0 + i) ≡ three_of l i
    first i = let e : 0 + i ≡ i = omega arith in ap (three_of l) e

abbrev pub reversed_block : List ℕ → ℕ → List ℕ
reversed_block l i = get_or l (3 * i) 0 ∷ get_or l (3 * i + 2) 0 ∷ get_or l (3 * i + 1) 0 ∷ []

pub reversed_are : (l : List ℕ) → flat_map (reversed_block l) (up_to (length l / 3)) ≡ flat (map reversed (threes l))
reversed_are l =
    sym
    (ap (λ (m : List (Triangle ℕ)). flat (map reversed m)) (threes_map l)
    ∙ flat_map_lem vertices reversed (map (three_of l) (up_to (length l / 3)))
    ∙ flat_map_lem (λ t. vertices (reversed t)) (three_of l) (up_to (length l / 3)))

module _ (l : List ℕ) (whole : length l % 3 ≡ 0) where
  pub own_positive : (b : Bool) → b ≡ true → l ≡ flat (own_facets b (threes l))
  unfolding own_facets
  own_positive b e = sym (ap (λ (c : Bool). flat (cond c (threes l) (map reversed (threes l)))) e ∙ flat_threes l whole)

  pub own_negative : (b : Bool) → b ≡ false → flat (map reversed (threes l)) ≡ flat (own_facets b (threes l))
  unfolding own_facets
  own_negative b e = sym (ap (λ (c : Bool). flat (cond c (threes l) (map reversed (threes l)))) e)

  pub own_long : (b : Bool) → length (flat (own_facets b (threes l))) ≡ length l
  unfolding own_facets
  own_long true = ap length (flat_threes l whole)
  own_long false =
      let a = length_flat (map reversed (threes l)) in
      let c = length-map (threes l) reversed in
      let d = length_threes l in
      omega (arith, a, c, d, whole)

-- ---- caps

module _ (w : List ℕ) (facet first : ℕ) where
  pub cap_taken : get_or w first 0 ≡ 1 → cap_words w facet first ≡ get_or w facet 0 ∷ get_or w (facet + 1) 0 ∷ get_or w (facet + 2) 0 ∷ []
  cap_taken e = cond_true (eqb (get_or w first 0) 1) _ _ _ (eq-eqb (get_or w first 0) 1 e) refl

  pub cap_left : (get_or w first 0 ≡ 1 → ⊥) → cap_words w facet first ≡ []
  cap_left e = cond_false (eqb (get_or w first 0) 1) _ _ _ (ne_eqb (get_or w first 0) 1 e) refl

abbrev pub cap_block : List ℕ → ℕ → ℕ → ℕ → List ℕ
cap_block w facets firsts i = cap_words w (facets + 3 * i) (firsts + i)

pub caps_are : (w : List ℕ) (facets firsts left : ℕ)
    → all_cap_words w facets firsts left ≡ flat (map (λ i. tri (get_or w (facets + 3 * i) 0) (get_or w (facets + 3 * i + 1) 0) (get_or w (facets + 3 * i + 2) 0))
    (keep (λ i. eqb (get_or w (firsts + i) 0) 1) (up_to left)))
caps_are w facets firsts left =
    flat_keep (λ i. eqb (get_or w (firsts + i) 0) 1) (λ i. get_or w (facets + 3 * i) 0 ∷ get_or w (facets + 3 * i + 1) 0 ∷ get_or w (facets + 3 * i + 2) 0 ∷ []) (up_to left)
    ∙ sym
    (flat_map_lem vertices (λ i. tri (get_or w (facets + 3 * i) 0) (get_or w (facets + 3 * i + 1) 0) (get_or w (facets + 3 * i + 2) 0))
    (keep (λ i. eqb (get_or w (firsts + i) 0) 1) (up_to left)))
