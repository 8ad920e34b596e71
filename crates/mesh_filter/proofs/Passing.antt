-- One facet more: whether it passes. Assumes nothing.
use Prim.Native.Nat.{ℕ, ◌+◌}
use native.Mathlib.Numerals.{add-one}
use mathlib.Core.Path.{◌≡◌, refl, ap, ◌∙◌}
use mathlib.Core.Bool.{Bool, true, false, cond, not, ◌&&◌}
use mathlib.Core.List.{List, [], ◌∷◌, ◌++◌}
use Rattle.std.specs.Prelude.{None, Some, is_none}
use lib.Ieee.{Float}
use Rattle.lists.proofs.Bools.{and_stop}
use Rattle.geometry.specs.declared.point.Point.{Point}
use Rattle.geometry.specs.Triangles.{Triangle}
use Rattle.mesh_filter.specs.Filters.{facet_at, has_repeated_corner, is_flat, is_duplicate, repeated_corner, too_flat, duplicate, filtered, passes, passed_next, passed}

module _ (eps : Float) (points : List Point) (facets : List (Triangle ℕ)) (earlier : List ℕ) (t : Triangle ℕ) where
  -- the three tests, one after the other
  told : (r f d : Bool) → is_none (cond r (Some repeated_corner) (cond f (Some too_flat) (cond d (Some duplicate) None))) ≡ (not r && (not f && not d))
  told true f d = refl
  told false true d = refl
  told false false true = refl
  told false false false = refl

  passes_is : passes eps points facets earlier t ≡ (not (has_repeated_corner t) && (not (is_flat eps points t) && not (is_duplicate facets earlier t)))
  unfolding filtered
  passes_is = told (has_repeated_corner t) (is_flat eps points t) (is_duplicate facets earlier t)

  pub repeated_stops : has_repeated_corner t ≡ true → passes eps points facets earlier t ≡ false
  repeated_stops e = passes_is ∙ and_stop (not (has_repeated_corner t)) (not (is_flat eps points t) && not (is_duplicate facets earlier t)) (ap not e)

  pub flat_stops : is_flat eps points t ≡ true → passes eps points facets earlier t ≡ false
  flat_stops e = passes_is ∙ rw e (no_more (not (has_repeated_corner t)))
    where
      no_more : (b : Bool) → (b && false) ≡ false
      no_more true = refl
      no_more false = refl

  pub duplicate_stops : is_duplicate facets earlier t ≡ true → passes eps points facets earlier t ≡ false
  duplicate_stops e = passes_is ∙ rw e (no_more (not (has_repeated_corner t)) (not (is_flat eps points t)))
    where
      no_more : (a b : Bool) → (a && (b && false)) ≡ false
      no_more true true = refl
      no_more true false = refl
      no_more false b = refl

  pub goes_through : has_repeated_corner t ≡ false → is_flat eps points t ≡ false → is_duplicate facets earlier t ≡ false → passes eps points facets earlier t ≡ true
  goes_through p q r = passes_is ∙ rw (p, q, r) refl

module _ (eps : Float) (points : List Point) (facets : List (Triangle ℕ)) (f : ℕ) where
  pub passed_not : passes eps points facets (passed eps points facets f) (facet_at facets f) ≡ false → passed eps points facets (f + 1) ≡ passed eps points facets f
  unfolding passed passed_next
  passed_not e = ap (passed eps points facets) (add-one f) ∙ ap (λ (b : Bool). cond b (passed eps points facets f ++ (f ∷ [])) (passed eps points facets f)) e

  pub passed_too : passes eps points facets (passed eps points facets f) (facet_at facets f) ≡ true → passed eps points facets (f + 1) ≡ passed eps points facets f ++ (f ∷ [])
  unfolding passed passed_next
  passed_too e = ap (passed eps points facets) (add-one f) ∙ ap (λ (b : Bool). cond b (passed eps points facets f ++ (f ∷ [])) (passed eps points facets f)) e
