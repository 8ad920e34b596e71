-- What the functions of outputs are asked and promise, of which the outer contract does not speak. The room is laid out as crate candidate_pool says (src/room.rt).
-- Assumes nothing.
--   face_words      "face and two candidates" as words, if the face is one of those in a mask
--   candidates_standing       the four results that stand in the room
--   Readable       what is asked of the room for them to be written out
use Rattle.std.specs.Prelude.{ℕ, ◌+◌, ◌*◌, ◌≤◌, ◌<◌, ◌≡◌, cond, List, [], ◌∷◌, map, length, get_or}
use Rattle.lists.specs.Regions.{view}
use Rattle.box_faces.specs.Faces.{has_bit}
use Rattle.candidate_pool.specs.Offsets.{constraints_at, open_edges_at, room_end}
use Rattle.candidate_pool.specs.Standing.{count_at, pool_at, edges_at}
use Rattle.candidate_constraints.specs.Steps.{unpacked}
use Rattle.candidate_surface.specs.Candidates.{Candidates}
use Rattle.candidate_outputs.specs.Outputs.{candidate_words}

abbrev pub face_words : ℕ → ℕ → ℕ → ℕ → List ℕ
face_words mask a b f = cond (has_bit mask f) (f ∷ a ∷ b ∷ []) []

-- for nf facets, k open edges and `total` constraints
abbrev pub candidates_standing : ℕ → ℕ → ℕ → ℕ → List ℕ → Candidates
candidates_standing n nf k total w =
    record {
      all = (pool_at n w).all;
      lists = (pool_at n w).lists;
      constraints = map unpacked (view w (constraints_at n nf) total);
      edges = edges_at w (open_edges_at n nf) k;
    }

pub record Readable (n nf k listed total : ℕ) (w : List ℕ) : Type 0 where
  pub small : n < 268435456
  pub small_facets : nf < 268435456
  pub size : room_end n nf ≤ length w
  pub few : count_at w ≤ n
  pub words : candidate_words (pool_at n w).all ≡ view w 8 (5 * count_at w)
  pub short : (f : ℕ) → f < 6 → get_or w f 0 ≤ n
  pub constraints : total ≤ 24 * n + 18 * nf
  pub edges : k ≤ 3 * nf
  pub faces_listed : listed ≡ length (edges_at w (open_edges_at n nf) k)
