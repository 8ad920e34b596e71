-- Caps as they are made in the work room, of which the outer contract does not speak. From closing_at on (cap_triangles), for at most n candidates and nc triangles: of a candidate its
-- vertex + 1 or 0 (n words), candidates that became new vertices (n), facets left after the area test (3 nc), their records (4 nc), of a facet left 1 if it is the first of its three
-- corners (nc), and how many vertices there are (1). Assumes nothing.
--   given_at .. count_at      where these tables stand
--   fresh_in        the candidates that became new vertices
--   facet_in        facet i of those left                      firsts_in    those that are the first of their three corners
--   taken_in        the triangles that the mode takes, turned, by the selection that stands in the room
--   points_for, facets_for   the vertices and the caps written
--   MeshWords      candidates name vertices of the mesh
--   Closed         what `close_caps` leaves: `left` facets after the area test, `caps` of them first
use Rattle.std.specs.Prelude.{ℕ, ◌+◌, ◌*◌, ◌-◌, ◌/◌, ◌≤◌, ◌<◌, ◌≡◌, Bool, List, ◌++◌, map, eqb, length, get_or, Float}
use Rattle.lists.specs.Lists.{keep, up_to}
use Rattle.lists.specs.Regions.{view, Above}
use Rattle.geometry.specs.Triangles.{Triangle, tri}
use Rattle.geometry.specs.Meshes.{points_of}
use Rattle.geometry.specs.declared.point.Point.{Point}
use Rattle.candidate_pool.specs.Offsets.{entry_at}
use Rattle.candidate_pool.specs.Standing as standing
use Rattle.candidate_pool.specs.Standing.{pool_at, point_at}
use Rattle.cap_triangles.specs.Selection.{caps_of, outward_caps}
use Rattle.cap_triangles.specs.Room.{closing_at}
use Rattle.cap_selection.specs.Chosen.{chosen_in}
use Rattle.cap_closing.specs.Closing.{taken, closed_points, cap_corners, cap_facets}

module _ (n nf nc : ℕ) where
  abbrev pub given_at : ℕ
  given_at = closing_at n nf nc

  abbrev pub fresh_at : ℕ
  fresh_at = closing_at n nf nc + n

  abbrev pub left_at : ℕ
  left_at = closing_at n nf nc + 2 * n

  abbrev pub threes_at : ℕ
  threes_at = closing_at n nf nc + 2 * n + 3 * nc

  abbrev pub firsts_at : ℕ
  firsts_at = closing_at n nf nc + 2 * n + 7 * nc

  abbrev pub vertices_at : ℕ
  vertices_at = closing_at n nf nc + 2 * n + 8 * nc

  abbrev pub fresh_in : List ℕ → ℕ → List ℕ
  fresh_in w nv = view w fresh_at (get_or w vertices_at 0 - nv)

  abbrev pub facet_in : List ℕ → ℕ → Triangle ℕ
  facet_in w i = tri (get_or w (left_at + 3 * i) 0) (get_or w (left_at + 3 * i + 1) 0) (get_or w (left_at + 3 * i + 2) 0)

  abbrev pub firsts_in : List ℕ → ℕ → List (Triangle ℕ)
  firsts_in w left = map (facet_in w) (keep (λ i. eqb (get_or w (firsts_at + i) 0) 1) (up_to left))

abbrev pub taken_in : ℕ → ℕ → List ℕ → Bool → List ℕ → List (Triangle ℕ)
taken_in n nf cap_list positive w = taken positive (chosen_in n nf (length cap_list / 4) w) (outward_caps (pool_at n w) (caps_of cap_list))

abbrev pub points_for : ℕ → ℕ → List ℕ → Bool → List Float → List ℕ → List Point
points_for n nf cap_list positive vs w = closed_points (pool_at n w) (points_of vs) (taken_in n nf cap_list positive w)

abbrev pub facets_for : ℕ → ℕ → List ℕ → Bool → List Float → List ℕ → List (Triangle ℕ)
facets_for n nf cap_list positive vs w =
    cap_facets (points_for n nf cap_list positive vs w) (cap_corners (pool_at n w) (length (points_of vs)) (taken_in n nf cap_list positive w))

-- a candidate's word names one of nv mesh vertices, or none
abbrev pub MeshWords : ℕ → List ℕ → Type 0
MeshWords nv w = (c : ℕ) → c < standing.count_at w → get_or w (entry_at c + 3) 0 ≤ nv

pub record Closed (vs : List Float) (n nf : ℕ) (cap_list : List ℕ) (positive : Bool) (left caps : ℕ) (w w' : List ℕ) : Type 0 where
  pub above : Above (closing_at n nf (length cap_list / 4)) w w'
  pub own : length vs / 3 ≤ get_or w' (vertices_at n nf (length cap_list / 4)) 0
  pub most : get_or w' (vertices_at n nf (length cap_list / 4)) 0 ≤ length vs / 3 + n
  pub fresh : (i : ℕ) → i < get_or w' (vertices_at n nf (length cap_list / 4)) 0 - length vs / 3 → get_or w' (fresh_at n nf (length cap_list / 4) + i) 0 < standing.count_at w'
  pub points : points_for n nf cap_list positive vs w ≡ points_of vs ++ map (λ c. point_at w' (entry_at c)) (fresh_in n nf (length cap_list / 4) w' (length vs / 3))
  pub few : left ≤ length cap_list / 4
  pub low : (j : ℕ) → j < 3 * left → get_or w' (left_at n nf (length cap_list / 4) + j) 0 < 2097152
  pub facets : firsts_in n nf (length cap_list / 4) w' left ≡ facets_for n nf cap_list positive vs w
  pub count : caps ≡ length (facets_for n nf cap_list positive vs w)
