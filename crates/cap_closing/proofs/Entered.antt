-- The table of numbers that entering the corners gives is the list of the new vertices and the vertex of each candidate (specs/Closing.antt). Assumes nothing.
--   entered       the table: of each candidate its mesh vertex, or a new one from its first use on
--   points_are    the points                 corners_are   the corners as vertex numbers
use Prim.Native.Nat.{ℕ, ◌+◌, ◌-◌, ◌<◌}
use mathlib.Core.Path.{◌≡◌, refl, sym, ap, subst, ◌∙◌}
use mathlib.Core.Bool.{cond}
use mathlib.Core.List.{List, [], ◌∷◌, ◌++◌, map, foldl, flat_map, Memᴰ}
use lib.Dec.{eqb}
use lib.ListN.{length, get_or, length-map}
use Rattle.lists.specs.Lists.{place, distinct}
use Rattle.lists.proofs.Counts.{keep_same}
use Rattle.lists.proofs.Mapped.{Each, each_of, of_each}
use Rattle.lists.proofs.Sequences.{at_map}
use Rattle.geometry.specs.declared.point.Point.{Point}
use Rattle.geometry.specs.Triangles.{Triangle, tri, mapped, flat}
use Rattle.geometry.specs.FirstUse.{Named, new_number, enter}
use Rattle.geometry.proofs.FirstUse.{news, number_in, news_points, news_numbers}
use Rattle.candidate_pool.specs.Pool.{Pool, Candidate, no_candidate, point_of}
use Rattle.cap_closing.specs.Closing.{mesh_word, new_vertices, vertex_for, closed_points, cap_corners}

abbrev pub entered : Pool → List Point → List (Triangle ℕ) → Named
entered pool points ts = foldl (enter (point_of pool)) (record { given = map (λ c. c.mesh) pool.all; points = points }) (flat ts)

mapped_same : (f g : ℕ → ℕ) (ts : List (Triangle ℕ)) → Each (λ v. f v ≡ g v) (flat ts) → map (mapped f) ts ≡ map (mapped g) ts
unfolding flat_map
mapped_same f g [] e = refl
mapped_same f g (t ∷ ts) e = λ i. tri (e.0 i) (e.1.0 i) (e.1.1.0 i) ∷ mapped_same f g ts e.1.1.1 i

module _ (pool : Pool) (points : List Point) (ts : List (Triangle ℕ)) (low : Each (λ v. v < length pool.all) (flat ts)) where
  abbrev given : List ℕ
  given = map (λ c. c.mesh) pool.all

  mesh_at : (c : ℕ) → c < length pool.all → get_or given c 0 ≡ mesh_word pool c
  mesh_at c h = at_map (λ (c : Candidate). c.mesh) pool.all c no_candidate 0 h

  below : Each (λ v. v < length given) (flat ts)
  below = subst (λ (k : ℕ). Each (λ v. v < k) (flat ts)) (sym (length-map pool.all (λ c. c.mesh))) low

  news_are : news (point_of pool) given points (flat ts) ≡ new_vertices pool ts
  unfolding new_vertices
  news_are =
      ap (distinct eqb)
      (keep_same (λ c. eqb (get_or given c 0) 0) (λ c. eqb (mesh_word pool c) 0) (flat ts)
      (λ c m. ap (λ (k : ℕ). eqb k 0) (mesh_at c (of_each (λ v. v < length pool.all) m low))))

  pub points_are : (entered pool points ts).points ≡ closed_points pool points ts
  unfolding closed_points
  points_are = news_points (point_of pool) given points (flat ts) below ∙ ap (λ (l : List ℕ). points ++ map (point_of pool) l) news_are

  number_is : (c : ℕ) → Memᴰ c (flat ts) → new_number (entered pool points ts) c ≡ vertex_for pool (length points) (new_vertices pool ts) c
  unfolding vertex_for
  number_is c m =
      of_each (λ v. new_number (entered pool points ts) v ≡ number_in (point_of pool) given points (news (point_of pool) given points (flat ts)) v) m
      (news_numbers (point_of pool) given points (flat ts) below)
      ∙ ap (λ (l : List ℕ). number_in (point_of pool) given points l c) news_are
      ∙ ap (λ (k : ℕ). cond (eqb k 0) (length points + place (eqb c) (new_vertices pool ts)) (k - 1)) (mesh_at c (of_each (λ v. v < length pool.all) m low))

  pub corners_are : map (mapped (new_number (entered pool points ts))) ts ≡ cap_corners pool (length points) ts
  unfolding cap_corners
  corners_are =
      mapped_same (new_number (entered pool points ts)) (vertex_for pool (length points) (new_vertices pool ts)) ts
      (each_of (λ v. new_number (entered pool points ts) v ≡ vertex_for pool (length points) (new_vertices pool ts) v) (flat ts) number_is)
