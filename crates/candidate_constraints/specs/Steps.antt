-- What `all_constraints` and the functions inside it leave in the work room, of which the outer contract does not speak. For n candidates and nf facets: from places_at on
-- the places of a face's candidates, from side_at on the records of those on a side, from pairs_at on the records of pairs, from constraints_at on the constraints, each packed
-- into a word, and from open_edges_at on the open edges. Assumes nothing.
--   unpacked      a constraint's face and two places
--   Constrained   what `all_constraints` leaves
--   Kept          only words from lo up to, not including, hi differ
--   Shown         the room holds a pool: what is used of `Holds`
--   Roomy         the room for n candidates and nf facets
--   Placed        each candidate of the face has its place noted
--   stands, on_side_all   a place with its fraction along a side, if it stands on it; all of them, in the order of the face's list
--   by_fraction, side_places   `side_order`, without what it does not depend on;   edge_pairs   `edge_places` in the same way
--   NoNan, LowPlaces   what the records of a side ask
--   keyed         a fraction by its order;   pair_key, pair_record   a pair of places in one word; with nothing beside it
--   side_pairs, all_pairs   the neighbours along the four sides; all pairs of a face
--   Fractioned, Collected, Pushed, Distinct, FaceListed   what the functions inside leave
use Rattle.std.specs.Prelude.{ℕ, ◌+◌, ◌*◌, ◌≤◌, ◌<◌, ◌≡◌, Bool, true, not, T, eqb, length, get_or, Float, Option, Some}
use mathlib.Core.List.{List, ◌++◌, map, flat_map}
use Rattle.std.specs.Float.Ieee.{is_nan}
use Rattle.lists.specs.Lists.{keep, has, place, sort_by, up_to}
use Rattle.lists.specs.Regions.{view}
use Rattle.root.specs.Doubles.{before}
use Rattle.rounding.specs.Ordering.{order_key}
use Rattle.words.specs.Packed.{triple, triple_first, triple_second, triple_third}
use Rattle.records.specs.Buffer.{records_at}
use Rattle.records.specs.Runs.{runs, first_key}
use Rattle.geometry.specs.declared.aabb.AABB.{AABB}
use Rattle.geometry.specs.Boxes.{faces}
use Rattle.box_faces.specs.declared.uv.Side.{Side}
use Rattle.box_faces.specs.Faces.{project}
use Rattle.box_faces.specs.Sides.{face_sides, on_side}
use Rattle.edges.specs.Edges.{sorted_pair}
use Rattle.candidate_pool.specs.OpenEdges.{OpenEdge}
use Rattle.candidate_pool.specs.Offsets.{entry_at, pool_end, places_at, side_at, pairs_at, constraints_at, open_edges_at, room_end}
use Rattle.candidate_pool.specs.Pool.{Pool, point_of, face_list}
use Rattle.candidate_pool.specs.Standing.{count_at, pool_at, edges_at, PointStored, Tidy}
use Rattle.candidate_constraints.specs.Constraints.{Constraint, constraint, consecutive, standing, face_constraints}

abbrev pub unpacked : ℕ → Constraint
unpacked key = constraint (triple_first key) (triple_second key) (triple_third key)

pub record Constrained (box : AABB) (eps : Float) (n nf k r : ℕ) (w w' : List ℕ) : Type 0 where
  pub listed : map unpacked (view w' (constraints_at n nf) r) ≡ flat_map (face_constraints box eps (edges_at w (open_edges_at n nf) k) (pool_at n w)) faces
  pub few : r ≤ 24 * n + 18 * nf
  pub long : length w' ≡ length w
  pub low : (x : ℕ) → x < pool_end n → get_or w' x 0 ≡ get_or w x 0
  pub high : (x : ℕ) → open_edges_at n nf ≤ x → get_or w' x 0 ≡ get_or w x 0

pub record Kept (lo hi : ℕ) (w w' : List ℕ) : Type 0 where
  pub long : length w' ≡ length w
  pub low : (x : ℕ) → x < lo → get_or w' x 0 ≡ get_or w x 0
  pub high : (x : ℕ) → hi ≤ x → get_or w' x 0 ≡ get_or w x 0

pub record Shown (n : ℕ) (w : List ℕ) : Type 0 where
  pub size : pool_end n ≤ length w
  pub few : count_at w ≤ n
  pub lengths : (f : ℕ) → f < 6 → get_or w f 0 ≤ n
  pub stored : (c : ℕ) → c < count_at w → PointStored w (entry_at c)
  pub tidy : Tidy (pool_at n w)

pub record Roomy (n nf : ℕ) (w : List ℕ) : Type 0 where
  pub small : n < 2097152
  pub facets : nf < 268435456
  pub room : room_end n nf ≤ length w

abbrev pub Placed : ℕ → ℕ → List ℕ → Type 0
Placed n f w = (c : ℕ) → has (face_list (pool_at n w) f) c ≡ true → get_or w (places_at n + c) 0 ≡ place (eqb c) (face_list (pool_at n w) f)

-- ---- along a side
abbrev pub stands : Float → Pool → ℕ → Side → ℕ → List (Float × ℕ)
stands eps p f s i = standing i (on_side eps s (project f (point_of p (get_or (face_list p f) i 0))))

abbrev pub on_side_all : Float → Pool → ℕ → Side → List (Float × ℕ)
on_side_all eps p f s = flat_map (stands eps p f s) (up_to (length (face_list p f)))

abbrev pub by_fraction : Float × ℕ → Float × ℕ → Bool
by_fraction x y = before x.0 y.0

unfoldable pub side_places : Float → Pool → ℕ → Side → List ℕ
side_places eps p f s = map (λ x. x.1) (sort_by by_fraction (on_side_all eps p f s))

abbrev pub keyed : Float × ℕ → ℕ × ℕ
keyed x = (order_key x.0, x.1)

-- a fraction, if it is one, is a number
abbrev pub NoNan : Option Float → Type 0
NoNan t = (x : Float) → t ≡ Some x → T (not (is_nan x))

pub record Fractioned (at : ℕ) (t : Option Float) (i r : ℕ) (w w' : List ℕ) : Type 0 where
  pub few : r ≤ 1
  pub records : records_at w' at r ≡ map keyed (standing i t)
  pub kept : Kept at (at + 2) w w'

pub record Collected (eps : Float) (n f : ℕ) (s : Side) (m : ℕ) (w w' : List ℕ) : Type 0 where
  pub few : m ≤ get_or w f 0
  pub records : records_at w' (side_at n) m ≡ map keyed (on_side_all eps (pool_at n w) f s)
  pub kept : Kept (side_at n) (side_at n + 2 * n) w w'

-- the payloads of m records are places that a word holds two of, with a face
abbrev pub LowPlaces : ℕ → ℕ → List ℕ → Type 0
LowPlaces n m w = (i : ℕ) → i < m → get_or w (side_at n + 2 * i + 1) 0 < 2097152

-- ---- pairs
abbrev pub pair_key : ℕ → ℕ × ℕ → ℕ
pair_key f q = triple f (sorted_pair q).0 (sorted_pair q).1

abbrev pub pair_record : ℕ → ℕ × ℕ → ℕ × ℕ
pair_record f q = (pair_key f q, 0)

abbrev pub edge_pairs : Pool → ℕ → List OpenEdge → List (ℕ × ℕ)
edge_pairs p f edges = map (λ e. (place (eqb e.from) (face_list p f), place (eqb e.to) (face_list p f))) (keep (λ e. eqb e.face f) edges)

abbrev pub side_pairs : AABB → Float → Pool → ℕ → List (ℕ × ℕ)
side_pairs box eps p f = flat_map (λ s. consecutive (side_places eps p f s)) (face_sides box f)

abbrev pub all_pairs : AABB → Float → Pool → ℕ → List OpenEdge → List (ℕ × ℕ)
all_pairs box eps p f edges = side_pairs box eps p f ++ edge_pairs p f edges

-- l more pairs behind c; only words from lo on differ
pub record Pushed (n f lo most : ℕ) (l : List (ℕ × ℕ)) (c r : ℕ) (w w' : List ℕ) : Type 0 where
  pub few : r ≤ c + most
  pub records : records_at w' (pairs_at n) r ≡ records_at w (pairs_at n) c ++ map (pair_record f) l
  pub kept : Kept lo (pairs_at n + 2 * r) w w'

-- ---- constraints
pub record Distinct (n nf c total r : ℕ) (w w' : List ℕ) : Type 0 where
  pub few : r ≤ total + c
  pub listed : view w' (constraints_at n nf) r ≡ view w (constraints_at n nf) total ++ map first_key (runs (records_at w (pairs_at n) c))
  pub kept : Kept (constraints_at n nf) (open_edges_at n nf) w w'

pub record FaceListed (box : AABB) (eps : Float) (n nf k f total r : ℕ) (w w' : List ℕ) : Type 0 where
  pub few : r ≤ total + (4 * n + 3 * nf)
  pub listed : map unpacked (view w' (constraints_at n nf) r)
      ≡ map unpacked (view w (constraints_at n nf) total) ++ face_constraints box eps (edges_at w (open_edges_at n nf) k) (pool_at n w) f
  pub kept : Kept (places_at n) (open_edges_at n nf) w w'
