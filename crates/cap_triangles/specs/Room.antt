-- Supplied triangles in the work room, of which the outer contract does not speak. Behind the room of candidates (candidate_pool), for at most n candidates, nf facets and nc
-- supplied triangles. Every step of caps writes behind what the steps before it wrote, so that its frame is one number. Assumes nothing.
--   turned_at .. closing_at   where the tables stand (src/room.rt has them as a table), and caps_end, where they end
--   Pooled         the room holds candidates, as far as caps asks
--   Supplied       with a list of triangles, and room for the tables
--   turned_in       the turned triangles that stand in the room
--   TurnedReady    the list passed 10, and its triangles stand there turned
--   CapReady       and the k open edges are there
use Rattle.std.specs.Prelude.{ℕ, ◌+◌, ◌*◌, ◌/◌, ◌%◌, ◌≤◌, ◌<◌, ◌≡◌, List, map, length, get_or}
use Rattle.lists.specs.Regions.{view}
use Rattle.geometry.specs.Triangles.{Triangle, threes}
use Rattle.candidate_pool.specs.Offsets.{entry_at, pool_end, open_edges_at, room_end}
use Rattle.candidate_pool.specs.Standing.{count_at, pool_at, PointStored, Tidy, EdgesHeld}
use Rattle.cap_triangles.specs.Selection.{caps_of, outward_caps}
use Rattle.cap_triangles.specs.Listed.{bad_cap_place}

abbrev pub turned_at : ℕ → ℕ → ℕ
turned_at n nf = room_end n nf

abbrev pub pair_records_at : ℕ → ℕ → ℕ → ℕ
pair_records_at n nf nc = turned_at n nf + 3 * nc

abbrev pub numbers_at : ℕ → ℕ → ℕ → ℕ
numbers_at n nf nc = turned_at n nf + 12 * nf + 15 * nc

abbrev pub up_at : ℕ → ℕ → ℕ → ℕ
up_at n nf nc = turned_at n nf + 15 * nf + 18 * nc

abbrev pub down_at : ℕ → ℕ → ℕ → ℕ
down_at n nf nc = turned_at n nf + 18 * nf + 21 * nc

abbrev pub held_at : ℕ → ℕ → ℕ → ℕ
held_at n nf nc = turned_at n nf + 21 * nf + 24 * nc

abbrev pub labels_at : ℕ → ℕ → ℕ → ℕ
labels_at n nf nc = turned_at n nf + 24 * nf + 27 * nc

abbrev pub components_at : ℕ → ℕ → ℕ → ℕ
components_at n nf nc = turned_at n nf + 24 * nf + 30 * nc

abbrev pub seeded_at : ℕ → ℕ → ℕ → ℕ
seeded_at n nf nc = turned_at n nf + 27 * nf + 38 * nc

abbrev pub closing_at : ℕ → ℕ → ℕ → ℕ
closing_at n nf nc = turned_at n nf + 27 * nf + 39 * nc

abbrev pub caps_end : ℕ → ℕ → ℕ → ℕ
caps_end n nf nc = closing_at n nf nc + 2 * n + 8 * nc + 1

pub record Pooled (n : ℕ) (w : List ℕ) : Type 0 where
  pub size : pool_end n ≤ length w
  pub few : count_at w ≤ n
  pub stored : (c : ℕ) → c < count_at w → PointStored w (entry_at c)
  pub masks : (c : ℕ) → c < count_at w → get_or w (entry_at c + 4) 0 < 64
  pub tidy : Tidy (pool_at n w)

pub record Supplied (n nf : ℕ) (cap_list w : List ℕ) : Type 0 where
  pub pooled : Pooled n w
  pub small : n < 1048576
  pub few : nf < 268435456
  pub fours : length cap_list % 4 ≡ 0
  pub caps : length cap_list / 4 ≤ 1048576
  pub size : caps_end n nf (length cap_list / 4) ≤ length w

abbrev pub turned_in : ℕ → ℕ → ℕ → List ℕ → List (Triangle ℕ)
turned_in n nf nc w = threes (view w (turned_at n nf) (3 * nc))

pub record TurnedReady (n nf : ℕ) (cap_list w : List ℕ) : Type 0 where
  pub supplied : Supplied n nf cap_list w
  pub good : bad_cap_place (pool_at n w) (caps_of cap_list) ≡ length (caps_of cap_list)
  pub turned : turned_in n nf (length cap_list / 4) w ≡ map (λ t. t.corners) (outward_caps (pool_at n w) (caps_of cap_list))

pub record CapReady (n nf k : ℕ) (cap_list w : List ℕ) : Type 0 where
  pub ready : TurnedReady n nf cap_list w
  pub held : EdgesHeld (pool_at n w) w (open_edges_at n nf) k
  pub edges : k ≤ 3 * nf
