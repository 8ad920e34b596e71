-- Candidates as they stand in the work room, of which the outer contract does not speak. For at most n candidates: from 0 on the lengths of the six face lists and the number
-- of candidates; from 8 on the candidates, five words each; from keys_at on their table (Room.antt); from lists_at on the six face lists, n words each;
-- from joined_at on a word for each mesh vertex: 1 more than the candidate that it became part of, or 0 while it was not inserted. Assumes nothing.
--   mesh_word       "mesh vertex + 1 or 0"
--   faces_in        the faces whose bits a word has            candidate   from its parts
--   count_at        how many candidates stand in the room      joined_in      the word of mesh vertex v
--   point_at        a point from three words of bits          candidate_at   candidate c
--   pool_at         all of them, with the face lists
--   PointIn        a point of no NaN and no infinity, as vertices and grid points are
--   PointStored         three words are the bits of such a point
--   Tidy           what every pool that was filled by `insert` satisfies: a candidate is in a face's list exactly if it has the face, and once
--   Holds          the room holds its pool, so that a candidate is found by its key
--   RoomFor        there is room for an inserted one, should it be new
--   Inserted       w became w' by an insertion;   VertexInserted   by that of a mesh vertex, whose word names the candidate that it became part of
--   with_face, FaceAdded   a pool whose candidate c has the face f too; w became w' so
--   Cleared        w became w', which holds no candidate
--   edge_at, edges_at   k open edges of three words each (two candidates, and the bits of the faces they are listed with), as the list of face and two candidates
--   EdgesHeld      the ends of these edges are in the lists of the edge's faces
use Rattle.std.specs.Prelude.{ℕ, suc, ◌+◌, ◌*◌, ◌≤◌, ◌<◌, ◌^◌, ◌≡◌, true, length, get_or, set, Float, Option, Some, None}
use mathlib.Core.List.{List, [], ◌∷◌, map, flat_map}
use Rattle.std.specs.Prelude.{Option, None, Some}
use Rattle.std.specs.Float.{binary64}
use Rattle.std.specs.Float.Ieee.{of_bits, to_bits}
use Rattle.lists.specs.Lists.{keep, has, up_to}
use Rattle.lists.specs.Regions.{view}
use Rattle.root.specs.Bounds.{Within}
use Rattle.geometry.specs.declared.point.Point.{Point}
use Rattle.geometry.specs.declared.numbers.MeshVertexId.{MeshVertexId}
use Rattle.geometry.specs.Points.{pt, origin}
use Rattle.geometry.specs.Boxes.{faces}
use Rattle.mesh_weld.specs.Cells.{key_of}
use Rattle.box_faces.specs.Faces.{has_bit}
use Rattle.candidate_pool.specs.OpenEdges.{OpenEdge, open_edge}
use Rattle.candidate_pool.specs.Offsets.{entry_at, keys_at, list_at, joined_at, pool_end}
use Rattle.candidate_pool.specs.Pool.{Candidate, Pool, no_candidate, no_pool, face_list, renewed, listed, by_key, place_for, number_for, insert}
use Rattle.mesh_weld.specs.Room.{words_of, cell_at}
use Rattle.candidate_pool.specs.Room.{KeyTable}

abbrev pub mesh_word : Option MeshVertexId → ℕ
mesh_word (Some v) = v.0 + 1
mesh_word None = 0

abbrev pub faces_in : ℕ → List ℕ
faces_in mask = keep (has_bit mask) faces

abbrev pub candidate : Point → ℕ → List ℕ → Candidate
candidate p mesh on = record { point = p; mesh = mesh; on = on }

abbrev pub count_at : List ℕ → ℕ
count_at w = get_or w 6 0

abbrev pub joined_in : ℕ → List ℕ → ℕ → ℕ
joined_in n w v = get_or w (joined_at n + v) 0

abbrev pub point_at : List ℕ → ℕ → Point
point_at w at = pt (of_bits binary64 (get_or w at 0)) (of_bits binary64 (get_or w (at + 1) 0)) (of_bits binary64 (get_or w (at + 2) 0))

abbrev pub candidate_at : List ℕ → ℕ → Candidate
candidate_at w c = record { point = point_at w (entry_at c); mesh = get_or w (entry_at c + 3) 0; on = faces_in (get_or w (entry_at c + 4) 0) }

unfoldable pub pool_at : ℕ → List ℕ → Pool
pool_at n w = record { all = map (candidate_at w) (up_to (count_at w)); lists = map (λ f. view w (list_at n f) (get_or w f 0)) faces }

pub record PointIn (p : Point) : Type 0 where
  pub x : Within (2 ^ 48) p.x
  pub y : Within (2 ^ 48) p.y
  pub z : Within (2 ^ 48) p.z

pub record PointStored (w : List ℕ) (at : ℕ) : Type 0 where
  pub x : to_bits binary64 (of_bits binary64 (get_or w at 0)) ≡ get_or w at 0
  pub y : to_bits binary64 (of_bits binary64 (get_or w (at + 1) 0)) ≡ get_or w (at + 1) 0
  pub z : to_bits binary64 (of_bits binary64 (get_or w (at + 2) 0)) ≡ get_or w (at + 2) 0
  pub within : PointIn (point_at w at)

pub record Tidy (p : Pool) : Type 0 where
  pub on : (f c : ℕ) → f < 6 → c < length p.all → has (face_list p f) c ≡ has (get_or p.all c no_candidate).on f
  pub low : (f i : ℕ) → f < 6 → i < length (face_list p f) → get_or (face_list p f) i 0 < length p.all
  pub once : (f i j : ℕ) → f < 6 → i < j → j < length (face_list p f) → get_or (face_list p f) i 0 ≡ get_or (face_list p f) j 0 → ⊥

pub record Holds (eps : Float) (n : ℕ) (w : List ℕ) : Type 0 where
  pub size : pool_end n ≤ length w
  pub table : KeyTable w n (count_at w)
  pub keys : (c : ℕ) → c < count_at w → cell_at w (keys_at n + 3 * c) ≡ words_of (key_of eps (point_at w (entry_at c)))
  pub stored : (c : ℕ) → c < count_at w → PointStored w (entry_at c)
  pub masks : (c : ℕ) → c < count_at w → get_or w (entry_at c + 4) 0 < 64
  pub lengths : (f : ℕ) → f < 6 → get_or w f 0 ≤ n
  pub tidy : Tidy (pool_at n w)

abbrev pub RoomFor : Float → ℕ → List ℕ → Candidate → Type 0
RoomFor eps n w e = place_for (by_key eps) (pool_at n w) e ≡ None → count_at w < n

-- only the words below joined_at change
pub record Inserted (eps : Float) (n : ℕ) (e : Candidate) (w w' : List ℕ) : Type 0 where
  pub pool : pool_at n w' ≡ insert (by_key eps) (pool_at n w) e
  pub holds : Holds eps n w'
  pub long : length w' ≡ length w
  pub rest : (x : ℕ) → joined_at n ≤ x → get_or w' x 0 ≡ get_or w x 0

-- a mesh vertex v, which has its word then
pub record VertexInserted (eps : Float) (n v : ℕ) (e : Candidate) (w w' : List ℕ) : Type 0 where
  pub pool : pool_at n w' ≡ insert (by_key eps) (pool_at n w) e
  pub holds : Holds eps n w'
  pub joined : joined_in n w' v ≡ suc (number_for (by_key eps) (pool_at n w) e)
  pub long : length w' ≡ length w
  pub rest : (x : ℕ) → joined_at n ≤ x → (x ≡ joined_at n + v → ⊥) → get_or w' x 0 ≡ get_or w x 0

abbrev pub with_face : Pool → ℕ → ℕ → Pool
with_face p c f =
    record {
      all = set p.all c (renewed (get_or p.all c no_candidate) (record { point = origin; mesh = 0; on = f ∷ [] }));
      lists = listed p.lists (f ∷ []) c;
    }

pub record FaceAdded (eps : Float) (n c f : ℕ) (w w' : List ℕ) : Type 0 where
  pub pool : pool_at n w' ≡ with_face (pool_at n w) c f
  pub holds : Holds eps n w'
  pub long : length w' ≡ length w
  pub rest : (x : ℕ) → joined_at n ≤ x → get_or w' x 0 ≡ get_or w x 0

pub record Cleared (eps : Float) (n : ℕ) (w w' : List ℕ) : Type 0 where
  pub pool : pool_at n w' ≡ no_pool
  pub holds : Holds eps n w'
  pub long : length w' ≡ length w
  pub joined : (v : ℕ) → v < n → joined_in n w' v ≡ 0
  pub rest : (x : ℕ) → pool_end n ≤ x → get_or w' x 0 ≡ get_or w x 0

abbrev pub edge_at : List ℕ → ℕ → List OpenEdge
edge_at w at = map (λ f. open_edge f (get_or w at 0) (get_or w (at + 1) 0)) (faces_in (get_or w (at + 2) 0))

unfoldable pub edges_at : List ℕ → ℕ → ℕ → List OpenEdge
edges_at w at k = flat_map (λ i. edge_at w (at + 3 * i)) (up_to k)

pub record EdgesHeld (p : Pool) (w : List ℕ) (at k : ℕ) : Type 0 where
  pub masks : (i : ℕ) → i < k → get_or w (at + 3 * i + 2) 0 < 64
  pub from : (i f : ℕ) → i < k → f < 6 → has_bit (get_or w (at + 3 * i + 2) 0) f ≡ true → has (face_list p f) (get_or w (at + 3 * i) 0) ≡ true
  pub to : (i f : ℕ) → i < k → f < 6 → has_bit (get_or w (at + 3 * i + 2) 0) f ≡ true → has (face_list p f) (get_or w (at + 3 * i + 1) 0) ≡ true
