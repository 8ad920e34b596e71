-- Laws of one plane. Snapping twice is snapping once, so a plane that leaves the corners that stay unsnapped, on corners that are snapped
-- already, does what the definition says; and each plane gives at most half as many corners again. Assumes nothing.
--   unsnapped_short, clip_short   at most half as many corners again: 3, 4, 6, 9, 13, 19, 28
--   unsnapped_snapped             clipped unsnapped, then snapped
--   unsnapped_same                corners that are snapped already
--   clip_snapped                  what a plane leaves is snapped
--   whole, whole_first, gone      a polygon wholly inside a plane, and one wholly outside
use Prim.Native.Nat.{ℕ, ◌+◌, ◌*◌, ◌-◌, ◌≤◌, ◌<◌}
use mathlib.Core.Bool.{Bool, true, false, cond, beq}
use mathlib.Core.List.{List, [], ◌∷◌, ◌++◌, map}
use mathlib.Core.Path.{◌≡◌, refl, sym, ap, ◌∙◌}
use native.Mathlib.Omega.{arith}
use lib.ListN.{get_or, drop, length, length-append, length-map}
use lib.Ieee.{Float}
use Rattle.std.proofs.lemmas.List.{map-append}
use Rattle.geometry.specs.declared.point.Point.{Point}
use Rattle.geometry.specs.declared.aabb.AABB.{AABB}
use Rattle.std.specs.Prelude.{Option, Some, None}
use Rattle.geometry.specs.Points.{along, origin}
use Rattle.geometry.specs.Boxes.{axis, plane}
use Rattle.lists.specs.Lists.{every, some}
use Rattle.lists.proofs.Bools.{and_left, and_right, or_none_left, or_none_right}
use Rattle.lists.proofs.Every.{every_at, none_at}
use Rattle.aabb_planes.specs.Planes.{inside, snapped, crossing, interpolated, on_plane}
use Rattle.aabb_polygons.specs.Polygons.{crossed, side_clipped, walk, clip_to_plane}
use Rattle.aabb_polygons.specs.Steps.{side_crossed, side_unsnapped, walk_unsnapped, clip_unsnapped}
use Rattle.aabb_planes.proofs.SnapTwice.{snap_twice}

-- ---- how the count grows: each plane gives at most half as many corners again. A corner outside counts one half for the crossing back in
abbrev outside : Bool → ℕ
outside true = 0
outside false = 1

last_of : Point → List Point → Point
last_of p [] = p
last_of p (q ∷ qs) = last_of q qs

crossed_short : (x : Option Float) (a b : Point) (k : ℕ) (box : AABB) (eps : Float) → length (crossed box eps k a b x) ≤ 1
unfolding crossed
crossed_short (Some t) a b k box eps = omega arith
crossed_short None a b k box eps = omega arith

parts_short : (i j : Bool) (x : List Point) (q : Point) → length x ≤ 1 → 2 * length (cond (beq i j) [] x ++ cond i (q ∷ []) []) + outside i ≤ 3 + outside j
parts_short true true x q h = omega arith
parts_short true false x q h = omega (arith, length-append x (q ∷ []))
parts_short false true x q h = omega (arith, length-append x [])
parts_short false false x q h = omega arith

module _ (k : ℕ) (box : AABB) (eps : Float) where
  side_short : (prev curr : Point) → 2 * length (side_unsnapped box eps k prev curr) + outside (inside box eps k curr) ≤ 3 + outside (inside box eps k prev)
  unfolding side_unsnapped
  side_short prev curr = parts_short (inside box eps k curr) (inside box eps k prev) _ _
      (crossed_short (crossing eps (plane box k) (along prev (axis k)) (along curr (axis k))) prev curr k box eps)

  walk_short : (prev : Point) (l : List Point)
      → 2 * length (walk_unsnapped box eps k prev l) + outside (inside box eps k (last_of prev l)) ≤ 3 * length l + outside (inside box eps k prev)
  unfolding walk_unsnapped last_of
  walk_short prev [] = omega arith
  walk_short prev (curr ∷ rest) =
      omega (arith, walk_short curr rest, side_short prev curr, length-append (side_unsnapped box eps k prev curr) (walk_unsnapped box eps k curr rest))

  last_at : (p d : Point) (l : List Point) (q : Point) → last_of p (q ∷ l) ≡ get_or (q ∷ l) (length l) d
  unfolding last_of
  last_at p d [] q = refl
  last_at p d (r ∷ rs) q = last_at q d rs r

  pub unsnapped_short : (l : List Point) → 2 * length (clip_unsnapped box eps k l) ≤ 3 * length l
  unfolding clip_unsnapped walk_unsnapped
  unsnapped_short [] = omega arith
  unsnapped_short (q ∷ l) =
      let e : length (q ∷ l) - 1 ≡ length l = omega arith in
      let p = get_or (q ∷ l) (length l) origin in
      rw e (omega (arith, walk_short p (q ∷ l), ap (λ (x : Point). outside (inside box eps k x)) (last_at p origin l q)))

-- ---- corners that are snapped
module _ (box : AABB) (eps : Float) where
  snap_all_twice : (l : List Point) → map (snapped box eps) (map (snapped box eps) l) ≡ map (snapped box eps) l
  snap_all_twice [] = refl
  snap_all_twice (p ∷ ps) = λ i. snap_twice box eps p i ∷ snap_all_twice ps i

  crossed_snapped : (x : Option Float) (a b : Point) (k : ℕ) → map (snapped box eps) (crossed box eps k a b x) ≡ crossed box eps k a b x
  unfolding crossed
  crossed_snapped (Some t) a b k = ap (λ (p : Point). p ∷ []) (snap_twice box eps (on_plane box k (interpolated a b t)))
  crossed_snapped None a b k = refl

  parts_snapped : (s i : Bool) (x : List Point) (q : Point) → map (snapped box eps) x ≡ x
      → map (snapped box eps) (cond s [] x ++ cond i (q ∷ []) []) ≡ cond s [] x ++ cond i (snapped box eps q ∷ []) []
  parts_snapped true true x q h = refl
  parts_snapped true false x q h = refl
  parts_snapped false true x q h = map-append (snapped box eps) x (q ∷ []) ∙ ap (λ (y : List Point). y ++ (snapped box eps q ∷ [])) h
  parts_snapped false false x q h = map-append (snapped box eps) x [] ∙ ap (λ (y : List Point). y ++ []) h

  module _ (k : ℕ) where
    side_snapped : (prev curr : Point) → map (snapped box eps) (side_unsnapped box eps k prev curr) ≡ side_clipped box eps k prev curr
    unfolding side_unsnapped side_clipped
    side_snapped prev curr = parts_snapped (beq (inside box eps k curr) (inside box eps k prev)) (inside box eps k curr) _ curr
        (crossed_snapped (crossing eps (plane box k) (along prev (axis k)) (along curr (axis k))) prev curr k)

    walk_snapped : (prev : Point) (l : List Point) → map (snapped box eps) (walk_unsnapped box eps k prev l) ≡ walk box eps k prev l
    unfolding walk_unsnapped walk
    walk_snapped prev [] = refl
    walk_snapped prev (curr ∷ rest) = map-append (snapped box eps) (side_unsnapped box eps k prev curr) (walk_unsnapped box eps k curr rest)
        ∙ (λ i. side_snapped prev curr i ++ walk_snapped curr rest i)

    pub unsnapped_snapped : (l : List Point) → map (snapped box eps) (clip_unsnapped box eps k l) ≡ clip_to_plane box eps l k
    unfolding clip_unsnapped clip_to_plane
    unsnapped_snapped l = walk_snapped (get_or l (length l - 1) origin) l

    pub clip_snapped : (l : List Point) → map (snapped box eps) (clip_to_plane box eps l k) ≡ clip_to_plane box eps l k
    clip_snapped l = ap (λ (x : List Point). map (snapped box eps) x) (sym (unsnapped_snapped l)) ∙ snap_all_twice (clip_unsnapped box eps k l) ∙ unsnapped_snapped l

    pub clip_short : (l : List Point) → 2 * length (clip_to_plane box eps l k) ≤ 3 * length l
    clip_short l = omega (arith, unsnapped_short k box eps l, ap length (unsnapped_snapped l), length-map (clip_unsnapped box eps k l) (snapped box eps))

    side_same : (prev curr : Point) → snapped box eps curr ≡ curr → side_unsnapped box eps k prev curr ≡ side_clipped box eps k prev curr
    unfolding side_unsnapped side_clipped
    side_same prev curr h =
        ap (λ (q : Point). cond (beq (inside box eps k curr) (inside box eps k prev)) [] (side_crossed box eps k prev curr) ++ cond (inside box eps k curr) (q ∷ []) []) (sym h)

    first_of : (p : Point) (ps : List Point) → map (snapped box eps) (p ∷ ps) ≡ p ∷ ps → snapped box eps p ≡ p
    first_of p ps h = ap (λ (l : List Point). get_or l 0 p) h

    rest_of : (p : Point) (ps : List Point) → map (snapped box eps) (p ∷ ps) ≡ p ∷ ps → map (snapped box eps) ps ≡ ps
    rest_of p ps h = ap (drop 1) h

    walk_same : (prev : Point) (l : List Point) → map (snapped box eps) l ≡ l → walk_unsnapped box eps k prev l ≡ walk box eps k prev l
    unfolding walk_unsnapped walk
    walk_same prev [] h = refl
    walk_same prev (curr ∷ rest) h = λ i. side_same prev curr (first_of curr rest h) i ++ walk_same curr rest (rest_of curr rest h) i

    pub unsnapped_same : (l : List Point) → map (snapped box eps) l ≡ l → clip_unsnapped box eps k l ≡ clip_to_plane box eps l k
    unfolding clip_unsnapped clip_to_plane
    unsnapped_same l h = walk_same (get_or l (length l - 1) origin) l h

    abbrev within : Point → Bool
    within p = inside box eps k p

    side_whole : (prev curr : Point) → within prev ≡ true → within curr ≡ true → side_unsnapped box eps k prev curr ≡ curr ∷ []
    unfolding side_unsnapped
    side_whole prev curr h g = simp (h, g)

    walk_whole : (prev : Point) (l : List Point) → within prev ≡ true → every within l ≡ true → walk_unsnapped box eps k prev l ≡ l
    unfolding walk_unsnapped
    walk_whole prev [] h g = refl
    walk_whole prev (curr ∷ rest) h g =
        let c = and_left (within curr) (every within rest) g in
        λ i. side_whole prev curr h c i ++ walk_whole curr rest c (and_right (within curr) (every within rest) g) i

    -- a polygon that is wholly inside stays
    pub whole : (l : List Point) → 0 < length l → every within l ≡ true → l ≡ clip_unsnapped box eps k l
    unfolding clip_unsnapped
    whole l z g = sym (walk_whole (get_or l (length l - 1) origin) l (every_at within l (length l - 1) origin g (omega arith)) g)

    -- where every corner is inside, and they are snapped then
    pub whole_first : (l : List Point) → 0 < length l → every within l ≡ true → map (snapped box eps) l ≡ clip_to_plane box eps l k
    whole_first l z g = ap (map (snapped box eps)) (whole l z g) ∙ unsnapped_snapped l

    side_none : (prev curr : Point) → within prev ≡ false → within curr ≡ false → side_unsnapped box eps k prev curr ≡ []
    unfolding side_unsnapped
    side_none prev curr h g = simp (h, g)

    walk_none : (prev : Point) (l : List Point) → within prev ≡ false → some within l ≡ false → walk_unsnapped box eps k prev l ≡ []
    unfolding walk_unsnapped
    walk_none prev [] h g = refl
    walk_none prev (curr ∷ rest) h g =
        let c = or_none_left (within curr) (some within rest) g in
        λ i. side_none prev curr h c i ++ walk_none curr rest c (or_none_right (within curr) (some within rest) g) i

    -- a polygon that is wholly outside goes
    pub gone : (l : List Point) → 0 < length l → some within l ≡ false → [] ≡ clip_unsnapped box eps k l
    unfolding clip_unsnapped
    gone l z g = sym (walk_none (get_or l (length l - 1) origin) l (none_at within l (length l - 1) origin g (omega arith)) g)
