-- What the inner functions of closing do in the work room, of which no outer contract speaks. For at most n candidates, nc triangles and nv vertices of the mesh, from b on: of a
-- candidate its vertex + 1 or 0 (n words), the candidates that became new vertices (n), facets left after the area test (3 nc), their records (4 nc), of a facet left 1 if it is the first
-- of its three corners (nc), and how many vertices there are (1). Assumes nothing.
--   point_in           the point of candidate c               named_at    the numbers given out, and the vertices, as they stand in the room
--   NamesEntering          such numbers stand in the room: each new vertex is a candidate's, which has its number
--   NamesEntered           the corners cs were entered            NewNumbers    the vertices of three candidates
--   Shaped            candidates and vertices are points of no NaN and no infinity
--   left_facet, LeftAre  facet i of those left; these are left, with their records
--   put_left           the room with one facet more
--   Appended          the corners of one triangle were entered, and its facet is left or not
--   cap_at_room, is_taken, taken_at   triangle i as it stands, turned; whether the mode takes it; those taken of the first i
--   Turned            triangle i was passed over, or appended
--   Taking            the triangles have candidates, and components that there are
--   Appending         the first i triangles are through
--   is_first           no earlier place has the key of place i
--   bit               a truth value as a word                Started    what `start_entering` leaves
--   FirstsMarked            what `mark_firsts` leaves              Found      what `find_firsts` leaves
use Rattle.std.specs.Prelude.{ℕ, ◌+◌, ◌*◌, ◌-◌, ◌/◌, ◌≤◌, ◌<◌, ◌≡◌, Bool, true, false, cond, not, eqb, length, get_or, set, Float}
use Rattle.std.specs.Bool.{beq}
use mathlib.Core.List.{List, [], ◌∷◌, ◌++◌, map, foldl}
use Rattle.lists.specs.Lists.{keep, some, count, up_to}
use Rattle.lists.specs.Regions.{view, Above}
use Rattle.geometry.specs.declared.point.Point.{Point}
use Rattle.geometry.specs.Triangles.{Triangle, tri, mapped, vertices, flat}
use Rattle.geometry.specs.Meshes.{points_of}
use Rattle.geometry.specs.FirstUse.{Named, new_number, enter}
use Rattle.mesh_filter.specs.Room.{corners_key, Below}
use Rattle.candidate_pool.specs.Offsets.{entry_at, keys_at}
use Rattle.candidate_pool.specs.Standing.{count_at, point_at, PointStored}
use Rattle.candidate_edges.specs.Steps.{VerticesIn}
use Rattle.cap_triangles.specs.Room.{turned_at, components_at, seeded_at}
use Rattle.cap_closing.specs.Closing.{is_large}
use Rattle.records.specs.Buffer.{key_in, payload_in}

abbrev pub point_in : List ℕ → ℕ → Point
point_in w c = point_at w (entry_at c)

abbrev pub named_at : ℕ → ℕ → ℕ → ℕ → List Point → List ℕ → Named
named_at b n nc nv points w =
    record {
      given = view w b (count_at w);
      points = points ++ map (point_in w) (view w (b + n) (get_or w (b + 2 * n + 8 * nc) 0 - nv));
    }

pub record NamesEntering (b n nc nv : ℕ) (w : List ℕ) : Type 0 where
  pub pool : keys_at n ≤ b
  pub size : b + 2 * n + 8 * nc < length w
  pub count : count_at w ≤ n
  pub small : n < 1048576
  pub caps : nc ≤ 1048576
  pub few : nv < 1048576
  pub own : nv ≤ get_or w (b + 2 * n + 8 * nc) 0
  pub fresh : (i : ℕ) → nv + i < get_or w (b + 2 * n + 8 * nc) 0 → get_or w (b + n + i) 0 < count_at w
  pub numbered : (i : ℕ) → nv + i < get_or w (b + 2 * n + 8 * nc) 0 → get_or w (b + get_or w (b + n + i) 0) 0 ≡ nv + i + 1
  pub low : (c : ℕ) → c < count_at w → get_or w (b + c) 0 ≤ get_or w (b + 2 * n + 8 * nc) 0

pub record NamesEntered (b n nc nv : ℕ) (cs : List ℕ) (w w' : List ℕ) : Type 0 where
  pub entering : NamesEntering b n nc nv w'
  pub long : length w' ≡ length w
  pub below : (x : ℕ) → x < b → get_or w' x 0 ≡ get_or w x 0
  pub between : (x : ℕ) → b + 2 * n ≤ x → x < b + 2 * n + 8 * nc → get_or w' x 0 ≡ get_or w x 0
  pub stays : (c : ℕ) → c < count_at w → 0 < get_or w (b + c) 0 → get_or w' (b + c) 0 ≡ get_or w (b + c) 0
  pub grows : get_or w (b + 2 * n + 8 * nc) 0 ≤ get_or w' (b + 2 * n + 8 * nc) 0
  pub named : (points : List Point) → length points ≡ nv → named_at b n nc nv points w' ≡ foldl (enter (point_in w)) (named_at b n nc nv points w) cs

pub record NewNumbers (at : ℕ) (w : List ℕ) (t r : Triangle ℕ) : Type 0 where
  pub a : r.a + 1 ≡ get_or w (at + t.a) 0
  pub b : r.b + 1 ≡ get_or w (at + t.b) 0
  pub c : r.c + 1 ≡ get_or w (at + t.c) 0

pub record Shaped (vs : List Float) (w : List ℕ) : Type 0 where
  pub vertices : VerticesIn vs
  pub stored : (c : ℕ) → c < count_at w → PointStored w (entry_at c)

abbrev pub left_facet : ℕ → ℕ → List ℕ → ℕ → Triangle ℕ
left_facet b n w i = tri (get_or w (b + 2 * n + 3 * i) 0) (get_or w (b + 2 * n + 3 * i + 1) 0) (get_or w (b + 2 * n + 3 * i + 2) 0)

pub record LeftAre (b n nc left : ℕ) (w : List ℕ) (list : List (Triangle ℕ)) : Type 0 where
  pub facets : map (left_facet b n w) (up_to left) ≡ list
  pub keys : (j : ℕ) → j < left → get_or w (b + 2 * n + 3 * nc + 2 * j) 0 ≡ corners_key (left_facet b n w j)
  pub places : (j : ℕ) → j < left → get_or w (b + 2 * n + 3 * nc + 2 * j + 1) 0 ≡ j
  pub below : (j : ℕ) → j < left → Below (get_or w (b + 2 * n + 8 * nc) 0) (left_facet b n w j)

abbrev pub put_left : ℕ → ℕ → ℕ → ℕ → Triangle ℕ → List ℕ → List ℕ
put_left b n nc left t w =
    set (set (set (set (set w (b + 2 * n + 3 * left) t.a) (b + 2 * n + 3 * left + 1) t.b) (b + 2 * n + 3 * left + 2) t.c)
    (b + 2 * n + 3 * nc + 2 * left) (corners_key t)) (b + 2 * n + 3 * nc + 2 * left + 1) left

pub record Appended (vs : List Float) (b n nc : ℕ) (t : Triangle ℕ) (left r : ℕ) (w w' : List ℕ) : Type 0 where
  pub entering : NamesEntering b n nc (length vs / 3) w'
  pub above : Above b w w'
  pub named : named_at b n nc (length vs / 3) (points_of vs) w' ≡ foldl (enter (point_in w)) (named_at b n nc (length vs / 3) (points_of vs) w) (vertices t)
  pub few : r ≤ 1
  pub more : (facets : List (Triangle ℕ)) → LeftAre b n nc left w facets
      → LeftAre b n nc (left + r) w' (facets ++ keep (is_large (named_at b n nc (length vs / 3) (points_of vs) w').points)
      (mapped (new_number (named_at b n nc (length vs / 3) (points_of vs) w')) t ∷ []))

module _ (n nf nc : ℕ) where
  abbrev pub cap_at_room : List ℕ → ℕ → Triangle ℕ
  cap_at_room w i = tri (get_or w (turned_at n nf + 3 * i) 0) (get_or w (turned_at n nf + 3 * i + 1) 0) (get_or w (turned_at n nf + 3 * i + 2) 0)

  abbrev pub is_taken : Bool → List ℕ → ℕ → Bool
  is_taken positive w i = beq (eqb (get_or w (seeded_at n nf nc + get_or w (components_at n nf nc + i) 0) 0) 1) positive

  abbrev pub taken_at : Bool → List ℕ → ℕ → List (Triangle ℕ)
  taken_at positive w i = map (cap_at_room w) (keep (is_taken positive w) (up_to i))

  pub record Taking (w : List ℕ) : Type 0 where
    pub corners : (i : ℕ) → i < nc → Below (count_at w) (cap_at_room w i)
    pub parts : (i : ℕ) → i < nc → get_or w (components_at n nf nc + i) 0 < nc

pub record Turned (vs : List Float) (b n nf nc : ℕ) (positive : Bool) (i left r : ℕ) (w w' : List ℕ) : Type 0 where
  pub skipped : is_taken n nf nc positive w i ≡ false → (w' ≡ w) × (r ≡ 0)
  pub appended : is_taken n nf nc positive w i ≡ true → Appended vs b n nc (cap_at_room n nf nc w i) left r w w'
  pub few : r ≤ 1

pub record Appending (vs : List Float) (b n nf nc : ℕ) (positive : Bool) (i left : ℕ) (w w' : List ℕ) : Type 0 where
  pub entering : NamesEntering b n nc (length vs / 3) w'
  pub above : Above b w w'
  pub named : named_at b n nc (length vs / 3) (points_of vs) w' ≡ foldl (enter (point_in w)) (named_at b n nc (length vs / 3) (points_of vs) w) (flat (taken_at n nf nc positive w i))
  pub few : left ≤ i
  pub facets : LeftAre b n nc left w' (keep (is_large (named_at b n nc (length vs / 3) (points_of vs) w').points)
      (map (mapped (new_number (named_at b n nc (length vs / 3) (points_of vs) w'))) (taken_at n nf nc positive w i)))

unfoldable pub is_first : (ℕ → ℕ) → ℕ → Bool
is_first key i = not (some (λ j. eqb (key j) (key i)) (up_to i))

abbrev pub bit : Bool → ℕ
bit x = cond x 1 0

pub record Started (b n nc nv : ℕ) (w w' : List ℕ) : Type 0 where
  pub above : Above b w w'
  pub own : get_or w' (b + 2 * n + 8 * nc) 0 ≡ nv
  pub given : (c : ℕ) → c < count_at w → get_or w' (b + c) 0 ≡ get_or w (entry_at c + 3) 0

pub record FirstsMarked (records firsts left r : ℕ) (w w' : List ℕ) : Type 0 where
  pub marks : (j : ℕ) → j < left → get_or w' (firsts + payload_in w records j) 0 ≡ bit (is_first (key_in w records) j)
  pub counted : r ≡ count (is_first (key_in w records)) (up_to left)
  pub long : length w' ≡ length w
  pub below : (x : ℕ) → x < firsts → get_or w' x 0 ≡ get_or w x 0
  pub beyond : (x : ℕ) → firsts + left ≤ x → get_or w' x 0 ≡ get_or w x 0

pub record Found (records firsts left r : ℕ) (w w' : List ℕ) : Type 0 where
  pub marks : (i : ℕ) → i < left → get_or w' (firsts + i) 0 ≡ bit (is_first (key_in w records) i)
  pub counted : r ≡ count (is_first (key_in w records)) (up_to left)
  pub long : length w' ≡ length w
  pub below : (x : ℕ) → x < records → get_or w' x 0 ≡ get_or w x 0
  pub beyond : (x : ℕ) → firsts + left ≤ x → get_or w' x 0 ≡ get_or w x 0
