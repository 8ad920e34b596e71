-- The table's conditions that several operations share (document 01, "What the service takes" and "Refusals"; document 02, E2). Each is total: an earlier test may have
-- failed. Assumes nothing.
--   Limits, limits      what a caller allows: its ceiling, and the words of work room that it lends. Tests read it, and no result does
--   admitted, Admits    how many vertices, and how many facets, a ceiling admits; that it admits those of a mesh
--   list_tests           1, 2 and 3, of vertices, facets and cap list        ListsPass, CapListPass   what they give of a mesh and of a cap list, once they have passed
--   inRange, eps_in_range, resolution_in_range, box_in_range   the ranges of test 4
--   bad_box              5           grid_too_fine   6           CutsOf   how many segments each axis has, none more than 256
--   work_need, work_test  7           far_keys, box_far_keys   8
--   by_axis              a resolution for each axis, from a list of three
use Rattle.std.specs.Prelude.{ℕ, ◌+◌, ◌*◌, ◌/◌, ◌%◌, ◌<◌, ◌≤◌, min, ◌≡◌, Bool, false, not, ◌&&◌, ◌||◌, List, [], ◌∷◌, eqb, ltb, length, get_or, Float}
use Rattle.std.specs.Float.{nan}
use Rattle.std.specs.Float.Ieee.{neg, lt, le}
use Rattle.lists.specs.Lists.{every, some}
use Rattle.root.specs.Doubles.{zero_f, one_f, 2^30}
use Rattle.rounding.specs.Rounding.{far_key}
use Rattle.geometry.specs.declared.aabb.AABB.{AABB}
use Rattle.geometry.specs.Boxes.{lowest, highest, axes}
use Rattle.geometry.specs.Axes.{segments}
use Rattle.refusals.specs.declared.refusal.Refusal.TheVariants.{Ragged, TooMany, BadIndex, NoWorkRoom}
use Rattle.refusals.specs.Refusals.{Test}

pub record Limits : Type 0 where
  pub ceiling : ℕ
  pub lent : ℕ

abbrev pub limits : ℕ → ℕ → Limits
limits ceiling lent = record { ceiling = ceiling; lent = lent }

-- ---- 1, 2, 3

-- "a list length is no multiple of 3 (cap list: of 4)"
unfoldable pub ragged : ℕ → ℕ → Bool
ragged long of = not (eqb (long % of) 0)

-- "a list exceeds its count"
unfoldable pub too_many : ℕ → ℕ → ℕ → Bool
too_many most long of = ltb most (long / of)

-- "At most 65,536 of each"; "at most 1,048,576" cap triangles
abbrev pub mesh_ceiling : ℕ
mesh_ceiling = 65536

abbrev pub cap_ceiling : ℕ
cap_ceiling = 1048576

-- document 02, E2: "Each caller has its own ceiling (over 65,536 counts as 65,536)", one number for vertices and for facets
unfoldable pub admitted : ℕ → ℕ
admitted ceiling = min ceiling mesh_ceiling

-- "admit a mesh"
pub record Admits (ceiling : ℕ) (vs : List Float) (fs : List ℕ) : Type 0 where
  pub vertices : length vs / 3 ≤ admitted ceiling
  pub facets : length fs / 3 ≤ admitted ceiling

-- "a facet number is not below the vertex count"
unfoldable pub bad_index : ℕ → List ℕ → Bool
bad_index count facets = some (λ k. not (ltb k count)) facets

-- 2 goes by the caller's ceiling, but for the cap list. Where an operation takes no cap list, caps is 0
abbrev pub list_tests : ℕ → List Float → List ℕ → ℕ → List Test
list_tests ceiling vs fs caps =
    (ragged (length vs) 3 || (ragged (length fs) 3 || ragged caps 4), Ragged)
    ∷ (too_many (admitted ceiling) (length vs) 3 || (too_many (admitted ceiling) (length fs) 3 || too_many cap_ceiling caps 4), TooMany)
    ∷ (bad_index (length vs / 3) fs, BadIndex) ∷ []

-- what 1, 2 and 3 give, once they have passed
pub record ListsPass (vs : List Float) (fs : List ℕ) : Type 0 where
  pub whole_vertices : length vs % 3 ≡ 0
  pub whole_facets : length fs % 3 ≡ 0
  pub few_vertices : length vs / 3 ≤ mesh_ceiling
  pub few_facets : length fs / 3 ≤ mesh_ceiling
  pub below : bad_index (length vs / 3) fs ≡ false

-- and of a cap list of so many words
pub record CapListPass (caps : ℕ) : Type 0 where
  pub whole : caps % 4 ≡ 0
  pub few : caps / 4 ≤ cap_ceiling

-- ---- 4: a NaN fails every comparison, so it is in no range

-- "Magnitude of a coordinate or box corner at most 2^30"
unfoldable pub in_range : Float → Bool
in_range x = le (neg 2^30) x && le x 2^30

-- "eps from 0 to 1"
unfoldable pub eps_in_range : Float → Bool
eps_in_range e = le zero_f e && le e one_f

-- "resolution above 0 and at most 2^30"
unfoldable pub resolution_in_range : Float → Bool
resolution_in_range r = lt zero_f r && le r 2^30

unfoldable pub box_in_range : AABB → Bool
box_in_range b = every (λ k. in_range (lowest b k) && in_range (highest b k)) axes

-- ---- 5, 6

-- "min < max fails on an axis"
unfoldable pub bad_box : AABB → Bool
bad_box b = some (λ k. not (lt (lowest b k) (highest b k))) axes

abbrev pub by_axis : List Float → ℕ → Float
by_axis resolutions k = get_or resolutions k nan

-- "an axis needs over 256 segments"
unfoldable pub grid_too_fine : AABB → Float → (ℕ → Float) → Bool
grid_too_fine b eps resolution = some (λ k. ltb 256 (segments b eps resolution k)) axes

pub record CutsOf (b : AABB) (eps : Float) (resolution : ℕ → Float) (l : List ℕ) : Type 0 where
  pub counts : (k : ℕ) → k < 3 → get_or l k 0 ≡ segments b eps resolution k
  pub few : (k : ℕ) → k < 3 → get_or l k 0 ≤ 256

-- ---- 7

-- "128 × (vertices + facets + cap triangles + G) + 1,024 words of 64 bits"
unfoldable pub work_need : ℕ → ℕ → ℕ → ℕ → ℕ
work_need vertices facets caps grid = 128 * (vertices + facets + caps + grid) + 1024

abbrev pub work_test : ℕ → ℕ → Test
work_test need lent = (ltb lent need, NoWorkRoom need)

-- ---- 8

-- "a vertex (or .. a box corner) has a key beyond 2^62"
unfoldable pub far_keys : Float → List Float → Bool
far_keys eps l = some (far_key eps) l

abbrev pub box_far_keys : Float → AABB → Bool
box_far_keys eps b = far_keys eps b.min_corner || far_keys eps b.max_corner
