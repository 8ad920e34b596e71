-- What the inner functions of this crate ask and leave, over plain words. Assumes nothing.
--   SmallEdge      an open edge's two candidates fit the packing, where it has a face
--   side_words      side s of the turned triangles, as two words of the room
--   Recorded       m records were written, of the pairs P 0, P 1, .., numbered from `first` on
--   FirstsPut      by the edge or side of each record stands the place of the first record with its key
--   Added          a word of faces got the faces that p has
--   Noted          to each word that was 0 were added the bits of those of 0 .. m - 1 that are aimed at it
--   edge_mask, edge_target    the faces of open edge j, if it has two ends, and the word that they are added to
--   side_face, side_target    the same of side s
--   TablesFor      there is room for the tables
--   missing_face    a face with three candidates or more that is not among those of the word `held`
use Rattle.std.specs.Prelude.{ℕ, ◌+◌, ◌*◌, ◌/◌, ◌≤◌, ◌<◌, ◌≡◌, Bool, cond, not, ◌&&◌, ◌||◌, List, eqb, leb, ltb, length, get_or}
use Rattle.lists.specs.Lists.{some, up_to}
use Rattle.records.specs.Buffer.{record_of, payload_in}
use Rattle.lists.specs.Regions.{Above}
use Rattle.box_faces.specs.Faces.{has_bit}
use Rattle.edges.specs.Table.{edge_key, next_side}
use Rattle.cap_triangles.specs.Room.{numbers_at, up_at, down_at, held_at, caps_end}
use Rattle.candidate_pool.specs.Offsets.{open_edges_at}
use Rattle.records.specs.Runs.{FirstOf}

abbrev pub SmallEdge : List ℕ → ℕ → Type 0
SmallEdge w at = (get_or w (at + 2) 0 ≡ 0 → ⊥) → (get_or w at 0 < 4294967296) × (get_or w (at + 1) 0 < 4294967296)

abbrev pub side_words : List ℕ → ℕ → ℕ → ℕ × ℕ
side_words w at s = (get_or w (at + s) 0, get_or w (at + next_side s) 0)

pub record Recorded (P : ℕ → ℕ × ℕ) (w w' : List ℕ) (at first m : ℕ) : Type 0 where
  pub above : Above at w w'
  pub done : (j : ℕ) → j < m → record_of w' (at + 2 * j) ≡ (edge_key (P j), first + j)

pub record FirstsPut (w w' : List ℕ) (at numbers p : ℕ) : Type 0 where
  pub above : Above numbers w w'
  pub first : (i : ℕ) → i < p → FirstOf w at i (get_or w' (numbers + payload_in w at i) 0)

pub record Added (w w' : List ℕ) (at : ℕ) (p : ℕ → Bool) : Type 0 where
  pub long : length w' ≡ length w
  pub bits : (f : ℕ) → f < 6 → has_bit (get_or w' at 0) f ≡ (has_bit (get_or w at 0) f || p f)
  pub small : get_or w' at 0 < 64
  pub rest : (x : ℕ) → (x ≡ at → ⊥) → get_or w' x 0 ≡ get_or w x 0

pub record Noted (target : ℕ → ℕ) (bits : ℕ → ℕ → Bool) (w w' : List ℕ) (m : ℕ) : Type 0 where
  pub long : length w' ≡ length w
  pub at : (x f : ℕ) → f < 6 → get_or w x 0 ≡ 0 → has_bit (get_or w' x 0) f ≡ some (λ j. eqb (target j) x && bits j f) (up_to m)
  pub small : (x : ℕ) → get_or w x 0 ≡ 0 → get_or w' x 0 < 64
  pub rest : (x : ℕ) → ((j : ℕ) → j < m → target j ≡ x → ⊥) → get_or w' x 0 ≡ get_or w x 0

module _ (n nf nc : ℕ) (w : List ℕ) where
  abbrev pub edge_mask : ℕ → ℕ
  edge_mask j =
      cond (eqb (get_or w (open_edges_at n nf + 3 * j) 0) (get_or w (open_edges_at n nf + 3 * j + 1) 0)) 0
      (get_or w (open_edges_at n nf + 3 * j + 2) 0)

  abbrev pub edge_target : ℕ → ℕ
  edge_target j =
      cond (ltb (get_or w (open_edges_at n nf + 3 * j) 0) (get_or w (open_edges_at n nf + 3 * j + 1) 0)) (up_at n nf nc) (down_at n nf nc)
      + get_or w (numbers_at n nf nc + j) 0

  abbrev pub side_target : ℕ → ℕ → ℕ
  side_target k s = held_at n nf nc + get_or w (numbers_at n nf nc + k + s) 0

  pub record TablesFor (k : ℕ) : Type 0 where
    pub small : n < 268435456
    pub few : nf < 268435456
    pub caps : nc < 268435456
    pub edges : k ≤ 3 * nf
    pub size : caps_end n nf nc ≤ length w

abbrev pub side_face : List ℕ → ℕ → ℕ
side_face cap_list s = get_or cap_list (s / 3 * 4) 0

abbrev pub missing_face : List ℕ → ℕ → ℕ → Bool
missing_face w held f = leb 3 (get_or w f 0) && not (has_bit held f)
