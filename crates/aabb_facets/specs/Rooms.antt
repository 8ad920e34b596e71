-- What the inner functions do to the lists lent to them, step by step: counts, and the contents of three lists. Contracts of inner functions cite
-- this; the product promises nothing by it. `sets old i new` stores new from the place i on, as far as there is room. Assumes nothing.
--   Room, room        counts and contents                   grow          more vertices and more facet numbers
--   link              0, or 1 more than the number that a vertex is shared by
--   mark, mark_word, mark_words   the word of a vertex, and of all      marked, all_marked   a vertex inside, and all corners of a facet
--   share_room, share_to, fan_room, facet_room   what a shared corner, a facet's first corners, a fan and a facet do
--   shows             the room that shows what was made     Ran           what a whole pass does
use Rattle.std.specs.Prelude.{ℕ, zero, suc, ◌+◌, ◌*◌, ◌-◌, ◌≤◌, ◌≡◌, Bool, cond, not, ◌&&◌, List, [], ◌∷◌, map, ltb, eqb, get_or, set, length, Float}
use Rattle.std.proofs.lemmas.List.Edits.{sets}
use Rattle.lists.specs.Lists.{up_to}
use Rattle.geometry.specs.declared.point.Point.{Point}
use Rattle.geometry.specs.declared.aabb.AABB.{AABB}
use Rattle.geometry.specs.Boxes.{faces}
use Rattle.geometry.specs.Triangles.{Triangle, vertices, mapped, flat, corners_at}
use Rattle.geometry.specs.Meshes.{Mesh, coordinates, vertex_of}
use Rattle.aabb_planes.specs.Planes.{snapped}
use Rattle.aabb_polygons.specs.Polygons.{clip_polygon}
use Rattle.aabb_facets.specs.declared.facets.Counts.{Counts}
use Rattle.aabb_facets.specs.Clipped.{Clipping, inside_box, fan}

pub record Room : Type 0 where
  pub nv : ℕ
  pub nf : ℕ
  pub ids : List ℕ
  pub vs : List Float
  pub fs : List ℕ

abbrev pub room : Counts → List ℕ → List Float → List ℕ → Room
room c i v f = record { nv = c.vertices; nf = c.numbers; ids = i; vs = v; fs = f }

abbrev pub grow : Room → List Point → List ℕ → Room
grow r ps ks =
    record {
      nv = r.nv + length ps;
      nf = r.nf + length ks;
      ids = r.ids;
      vs = sets r.vs (3 * r.nv) (coordinates ps);
      fs = sets r.fs r.nf ks;
    }

abbrev pub renamed : Room → ℕ → ℕ → Room
renamed r v k = record { nv = r.nv; nf = r.nf; ids = set r.ids v k; vs = r.vs; fs = r.fs }

-- 0 outside the box; else 1 more than what is given of it
abbrev pub mark : Bool → ℕ → ℕ
mark b s = cond b (s + 1) 0

abbrev pub marked : List ℕ → ℕ → Bool
marked ids v = not (eqb (get_or ids v 0) 0)

abbrev pub all_marked : List ℕ → Triangle ℕ → Bool
all_marked ids t = marked ids t.a && (marked ids t.b && marked ids t.c)

unfoldable pub share_room_as : ℕ → Room → ℕ → Point → Room
share_room_as zero r v p = grow (renamed r v (r.nv + 2)) (p ∷ []) (r.nv ∷ [])
share_room_as (suc k) r v p = grow r [] (k ∷ [])

abbrev pub share_room : Room → ℕ → Point → Room
share_room r v p = share_room_as (get_or r.ids v 0 - 1) r v p

unfoldable pub fan_room : Room → List Point → Room
fan_room r l = cond (ltb (length l) 3) r (grow r l (flat (fan r.nv (length l - 2))))

module _ (vs : List Float) (fs : List ℕ) (box : AABB) (eps : Float) where
  -- the first j corners of the facet i shared
  unfoldable pub share_to : Room → ℕ → ℕ → Room
  share_to r i zero = r
  share_to r i (suc j) = share_room (share_to r i j) (get_or fs (3 * i + j) 0) (snapped box eps (vertex_of vs (get_or fs (3 * i + j) 0)))

  unfoldable pub facet_room : Room → ℕ → Room
  facet_room r i =
      cond (all_marked r.ids (corners_at fs (3 * i)))
      (share_to r i 3)
      (fan_room r (clip_polygon box eps faces (vertices (mapped (vertex_of vs) (corners_at fs (3 * i))))))

unfoldable pub link : List (ℕ × ℕ) → ℕ → ℕ
link [] v = 0
link (s ∷ l) v = cond (eqb v s.0) (s.1 + 1) (link l v)

module _ (vs : List Float) (box : AABB) (eps : Float) where
  abbrev pub mark_word : List (ℕ × ℕ) → ℕ → ℕ
  mark_word shared v = mark (inside_box box eps (vertex_of vs v)) (link shared v)

  -- of n vertices, as shared so far
  abbrev pub mark_words : ℕ → List (ℕ × ℕ) → List ℕ
  mark_words n shared = map (mark_word shared) (up_to n)

  -- new vertices, facet numbers and words, over old contents
  abbrev pub shows_as : ℕ → List Point → List ℕ → List (ℕ × ℕ) → List Float → List ℕ → Room
  shows_as n ps ks shared ov of =
      record {
        nv = length ps;
        nf = length ks;
        ids = mark_words n shared;
        vs = sets ov 0 (coordinates ps);
        fs = sets of 0 ks;
      }

  abbrev pub shows : ℕ → Clipping → List Float → List ℕ → Room
  shows n c ov of = shows_as n c.points (flat c.facets) c.shared ov of

-- no word is beyond the vertices made
abbrev pub Low : Room → Type 0
Low r = (w : ℕ) → get_or r.ids w 0 ≤ r.nv + 1

-- a whole pass: the counts, and the outputs as far as there is room
pub record Ran (m : Mesh) (r : Counts) (v v' : List Float) (f f' : List ℕ) : Type 0 where
  pub count : r.vertices ≡ length m.points
  pub numbers : r.numbers ≡ length (flat m.facets)
  pub vertices : v' ≡ sets v 0 (coordinates m.points)
  pub facets : f' ≡ sets f 0 (flat m.facets)
