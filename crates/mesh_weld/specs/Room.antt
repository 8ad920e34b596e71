-- What the functions of welding keep in the work room, of which the outer contract does not speak. For n vertices: 4 n heads, 4 n tails and n nexts (crate chains), the kept
-- vertices from 9 n on, the new numbers from 10 n on, and the cells of the kept from 11 n on, three words each. A key stands as a word, 2 ^ 63 more than it (`key_word`). Assumes nothing.
--   words_of              the cell of three keys, in words      cell_at    three words of the room as a cell
--   same_cell             two cells are one                             kept_points   the points of the vertices kept
--   found_in              the first kept vertex of some cells that is near p
--   up, block             the cell so many steps up on each axis; the 27 cells from one up
--   HashOf, cell_bucket   what the hash of a cell is congruent to, and its bucket
--   KeyIn, KeysIn         "Rounded keys at most 2^62 in magnitude"
--   Index                the table of the vertices kept             WeldedSoFar     the first i vertices are welded
--   Welds                what welding leaves
use Rattle.std.specs.Prelude.{ℕ, ◌+◌, ◌*◌, ◌%◌, ◌≤◌, ◌<◌, ◌≡◌, Bool, false, ◌&&◌, eqb, length, get_or, Float, Option}
use mathlib.Core.List.{List, [], ◌∷◌, map, flat_map}
use Rattle.lists.specs.Lists.{first, keep, up_to}
use Rattle.lists.specs.Regions.{view}
use Rattle.rounding.specs.Rounding.{far_key, key_word}
use Rattle.geometry.specs.declared.point.Point.{Point}
use Rattle.geometry.specs.Meshes.{vertex, vertex_of}
use Rattle.chains.specs.Hash.{prime, mixed, bucket_of}
use Rattle.chains.specs.Chains.{Linked}
use Rattle.mesh_weld.specs.declared.cells.Cell.{Cell}
use Rattle.mesh_weld.specs.Weld.{weld}
use Rattle.mesh_weld.specs.Cells.{Key, key_of, near, cells}

-- ---- cells in words

abbrev pub words_of : Key → Cell
words_of k = record { x = key_word k.x; y = key_word k.y; z = key_word k.z }

abbrev pub cell_at : List ℕ → ℕ → Cell
cell_at m o = record { x = get_or m o 0; y = get_or m (o + 1) 0; z = get_or m (o + 2) 0 }

abbrev pub same_cell : Cell → Cell → Bool
same_cell a b = eqb a.x b.x && (eqb a.y b.y && eqb a.z b.z)

abbrev pub kept_points : List Float → ℕ → ℕ → List ℕ → List Point
kept_points vs n count m = map (vertex_of vs) (view m (9 * n) count)

-- the kept vertices in the cell c, as the room has them
abbrev pub in_cell_at : ℕ → ℕ → List ℕ → Cell → List ℕ
in_cell_at n count m c = keep (λ k. same_cell (cell_at m (11 * n + 3 * k)) c) (up_to count)

unfoldable pub found_in : List Float → Float → ℕ → ℕ → List ℕ → Point → List Cell → Option ℕ
found_in vs eps n count m p cs = first (λ k. near eps p (vertex (kept_points vs n count m) k)) (flat_map (in_cell_at n count m) cs)

abbrev pub up : Cell → ℕ → ℕ → ℕ → Cell
up c x y z = record { x = c.x + x; y = c.y + y; z = c.z + z }

abbrev pub steps : List ℕ
steps = 0 ∷ 1 ∷ 2 ∷ []

unfoldable pub block : Cell → List Cell
block c = flat_map (λ x. flat_map (λ y. flat_map (λ z. up c x y z ∷ []) steps) steps) steps

-- s is the linear form of c's words, but for multiples of the prime
abbrev pub HashOf : Cell → ℕ → Type 0
HashOf c s = s % prime ≡ mixed c.x c.y c.z % prime

abbrev pub cell_bucket : ℕ → Cell → ℕ
cell_bucket n c = bucket_of c.x c.y c.z (4 * n)

-- ---- keys in range

pub record KeyIn (eps : Float) (p : Point) : Type 0 where
  pub x : far_key eps p.x ≡ false
  pub y : far_key eps p.y ≡ false
  pub z : far_key eps p.z ≡ false

abbrev pub KeysIn : List Float → Float → ℕ → Type 0
KeysIn vs eps n = (i : ℕ) → i < n → KeyIn eps (vertex_of vs i)

-- ---- the room

pub record Index (vs : List Float) (eps : Float) (n count : ℕ) (m : List ℕ) : Type 0 where
  pub size : 3 * n ≤ length vs
  pub small : n < 268435456
  pub room : 14 * n ≤ length m
  pub few : count ≤ n
  pub low : (k : ℕ) → k < count → get_or m (9 * n + k) 0 < n
  pub linked : Linked (λ k. cell_bucket n (cell_at m (11 * n + 3 * k))) m 0 (4 * n) count
  pub stands : (k : ℕ) → k < count → cell_at m (11 * n + 3 * k) ≡ words_of (key_of eps (vertex_of vs (get_or m (9 * n + k) 0)))

pub record WeldedSoFar (vs : List Float) (eps : Float) (n i count : ℕ) (m : List ℕ) : Type 0 where
  pub index : Index vs eps n count m
  pub done : i ≤ n
  pub within : count ≤ i
  pub kept : view m (9 * n) count ≡ (weld (cells eps) (vertex_of vs) i).kept
  pub old_to_new : view m (10 * n) i ≡ (weld (cells eps) (vertex_of vs) i).old_to_new

pub record Welds (vs : List Float) (eps : Float) (n : ℕ) (m : List ℕ) (r : ℕ) : Type 0 where
  pub few : r ≤ n
  pub kept : view m (9 * n) r ≡ (weld (cells eps) (vertex_of vs) n).kept
  pub old_to_new : view m (10 * n) n ≡ (weld (cells eps) (vertex_of vs) n).old_to_new
