-- The table of numbers given out by first use (specs/Room.antt, `numbering`) is the list of the vertices used and their places in it (specs/Compact.antt). Assumes nothing.
--   numbered_points   the points of the vertices numbered
--   numbered_place    the number of a corner
use Prim.Native.Nat.{ℕ, ◌+◌, ◌-◌, ◌<◌}
use native.Mathlib.Omega.{arith}
use mathlib.Core.Path.{◌≡◌, sym, ap, ◌∙◌, subst}
use mathlib.Core.Bool.{Bool, true, cond}
use mathlib.Core.List.{List, [], map, Memᴰ}
use lib.Dec.{eqb}
use lib.ListN.{length, get_or, replicate, length-replicate, get_or-replicate}
use borrow.Author.Tests.{eq-eqb}
use Rattle.lists.specs.Lists.{keep, place, distinct}
use Rattle.lists.proofs.Mapped.{Each, each_map, of_each, keep_all}
use Rattle.geometry.specs.declared.point.Point.{Point}
use Rattle.geometry.specs.Meshes.{vertex}
use Rattle.geometry.specs.FirstUse.{new_number}
use Rattle.geometry.proofs.FirstUse.{number_in, news_points, news_numbers}
use Rattle.mesh_compact.specs.Room.{numbering}

-- no vertex has a number from the start
module _ (points : List Point) (cs : List ℕ) (low : Each (λ v. v < length points) cs) where
  abbrev none : List ℕ
  none = replicate (length points) 0

  bare : (v : ℕ) → v < length points → eqb (get_or none v 0) 0 ≡ true
  bare v h = eq-eqb (get_or none v 0) 0 (get_or-replicate (length points) v 0 0 h)

  all : keep (λ v. eqb (get_or none v 0) 0) cs ≡ cs
  all = keep_all (λ v. eqb (get_or none v 0) 0) cs (each_map (λ v. v < length points) (λ v. eqb (get_or none v 0) 0 ≡ true) bare cs low)

  inside : Each (λ v. v < length none) cs
  inside = subst (λ (k : ℕ). Each (λ v. v < k) cs) (sym (length-replicate (length points) 0)) low

  pub numbered_points : (numbering points cs).points ≡ map (vertex points) (distinct eqb cs)
  unfolding numbering
  numbered_points = news_points (vertex points) none [] cs inside ∙ ap (λ (l : List ℕ). map (vertex points) (distinct eqb l)) all

  pub numbered_place : (v : ℕ) → Memᴰ v cs → new_number (numbering points cs) v ≡ place (eqb v) (distinct eqb cs)
  unfolding numbering
  numbered_place v m =
      of_each (λ v. new_number (numbering points cs) v ≡ number_in (vertex points) none [] (distinct eqb (keep (λ v. eqb (get_or none v 0) 0) cs)) v) m
      (news_numbers (vertex points) none [] cs inside)
      ∙ ap (λ (b : Bool). cond b (length {A = Point} [] + place (eqb v) (distinct eqb (keep (λ v. eqb (get_or none v 0) 0) cs))) (get_or none v 0 - 1))
      (bare v (of_each (λ v. v < length points) m low))
      ∙ (let e = ap (λ (l : List ℕ). place (eqb v) (distinct eqb l)) all in omega arith)
