-- Pairs of candidates in the work room, of which the outer contract does not speak: of k open edges, and then of the 3 nc sides of the turned triangles. Assumes nothing.
--   edge_pair, pair_at   the pair of open edge i, (0, 0) if it kept one end; and of edge or side q
--   pair_count      how many pairs there are              number_in   the number of pair q
--   PairNumbers    two have one number exactly if they have the same two candidates
--   Numbered       what `number_pairs` leaves
--   PairsKnown     by their numbers stand the faces of open edges that run up, of those that run down, and of triangles that hold the pair
use Rattle.std.specs.Prelude.{ℕ, ◌+◌, ◌*◌, ◌-◌, ◌/◌, ◌<◌, ◌≡◌, cond, ◌&&◌, List, eqb, ltb, length, get_or}
use Rattle.lists.specs.Lists.{some}
use Rattle.lists.specs.Regions.{Above}
use Rattle.geometry.specs.Triangles.{edges}
use Rattle.box_faces.specs.Faces.{has_bit}
use Rattle.edges.specs.Edges.{sides, same_pair}
use Rattle.candidate_pool.specs.Offsets.{open_edges_at}
use Rattle.candidate_pool.specs.Standing.{pool_at, edges_at}
use Rattle.cap_triangles.specs.Selection.{caps_of, outward_caps}
use Rattle.cap_triangles.specs.Room.{pair_records_at, numbers_at, up_at, down_at, held_at, turned_in}

abbrev pub edge_pair : List ℕ → ℕ → ℕ × ℕ
edge_pair w at = cond (eqb (get_or w (at + 2) 0) 0) (0, 0) (get_or w at 0, get_or w (at + 1) 0)

module _ (n nf k : ℕ) (cap_list : List ℕ) where
  abbrev pub pair_count : ℕ
  pair_count = k + 3 * (length cap_list / 4)

  unfoldable pub pair_at : List ℕ → ℕ → ℕ × ℕ
  pair_at w q = cond (ltb q k) (edge_pair w (open_edges_at n nf + 3 * q)) (get_or (sides (turned_in n nf (length cap_list / 4) w)) (q - k) (0, 0))

  abbrev pub number_in : List ℕ → ℕ → ℕ
  number_in w q = get_or w (numbers_at n nf (length cap_list / 4) + q) 0

  pub record PairNumbers (w : List ℕ) : Type 0 where
    pub low : (q : ℕ) → q < pair_count → number_in w q < pair_count
    pub same : (q r : ℕ) → q < pair_count → r < pair_count → eqb (number_in w q) (number_in w r) ≡ same_pair (pair_at w q) (pair_at w r)

  pub record Numbered (w w' : List ℕ) : Type 0 where
    pub above : Above (pair_records_at n nf (length cap_list / 4)) w w'
    pub numbers : PairNumbers w'

  -- open edges as face and two candidates, triangles turned
  pub record PairsKnown (w : List ℕ) : Type 0 where
    pub numbers : PairNumbers w
    pub up : (q f : ℕ) → q < pair_count → f < 6
        → has_bit (get_or w (up_at n nf (length cap_list / 4) + number_in w q) 0) f ≡ some (λ e. eqb e.face f && (same_pair (pair_at w q) (e.from, e.to) && ltb e.from e.to))
        (edges_at w (open_edges_at n nf) k)
    pub down : (q f : ℕ) → q < pair_count → f < 6
        → has_bit (get_or w (down_at n nf (length cap_list / 4) + number_in w q) 0) f ≡ some (λ e. eqb e.face f && (same_pair (pair_at w q) (e.from, e.to) && ltb e.to e.from))
        (edges_at w (open_edges_at n nf) k)
    pub held : (q f : ℕ) → q < pair_count → f < 6
        → has_bit (get_or w (held_at n nf (length cap_list / 4) + number_in w q) 0) f ≡ some (λ t. eqb t.face f && some (same_pair (pair_at w q)) (edges t.corners))
        (outward_caps (pool_at n w) (caps_of cap_list))
    pub up_small : (q : ℕ) → q < pair_count → get_or w (up_at n nf (length cap_list / 4) + number_in w q) 0 < 64
    pub down_small : (q : ℕ) → q < pair_count → get_or w (down_at n nf (length cap_list / 4) + number_in w q) 0 < 64
