-- The selection in the work room, of which the outer contract does not speak. Assumes nothing.
--   chosen_in   of each triangle whether its component holds a seed, as it stands in the room
--   Chosen     what `select_caps` leaves: the definition's selection
use Rattle.std.specs.Prelude.{ℕ, ◌+◌, ◌/◌, ◌<◌, ◌≡◌, Bool, List, map, eqb, length, get_or}
use Rattle.lists.specs.Lists.{up_to}
use Rattle.lists.specs.Regions.{Above}
use Rattle.candidate_pool.specs.Offsets.{open_edges_at}
use Rattle.candidate_pool.specs.Standing.{pool_at, edges_at}
use Rattle.cap_triangles.specs.Selection.{caps_of, outward_caps, selected}
use Rattle.cap_triangles.specs.Room.{labels_at, components_at, seeded_at}

abbrev pub chosen_in : ℕ → ℕ → ℕ → List ℕ → List Bool
chosen_in n nf nc w = map (λ i. eqb (get_or w (seeded_at n nf nc + get_or w (components_at n nf nc + i) 0) 0) 1) (up_to nc)

pub record Chosen (n nf k : ℕ) (cap_list w w' : List ℕ) : Type 0 where
  pub above : Above (labels_at n nf (length cap_list / 4)) w w'
  pub low : (i : ℕ) → i < length cap_list / 4 → get_or w' (components_at n nf (length cap_list / 4) + i) 0 < length cap_list / 4
  pub chosen : chosen_in n nf (length cap_list / 4) w' ≡ selected (edges_at w' (open_edges_at n nf) k) (outward_caps (pool_at n w') (caps_of cap_list))
