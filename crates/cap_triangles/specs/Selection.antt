-- Which supplied cap triangles are taken (document 01, module 6; demand 3; `select_closed_plus` and `orient_face_triangle` of boundary_closure.rs). Assumes nothing.
--   Cap, caps_of    a cap triangle, its face and three candidates; from the flat list handed in       cap_at   the i-th of them
--   signed_area     twice its projected area, signed
--   outward        turned outward by the sign test         outward_caps   all of them, so turned
-- Of triangles so turned, by their places in the list:
--   is_seed         a seed                                  is_open_pair    the pair is an open edge's
--   share_edge      two of them share an edge that is no open edge
--   selected       computed: the component of a triangle holds a seed
--   ToSeed         the same without computing: a chain of shared edges joins it to a seed
--   Selects        Bools that say exactly of which triangles that holds
use Rattle.std.specs.Prelude.{ℕ, ◌<◌, ◌≡◌, Bool, false, cond, not, ◌&&◌, List, [], ◌∷◌, map, T, eqb, length, get_or, Float}
use Rattle.std.specs.Bool.{beq}
use Rattle.std.specs.Float.Ieee.{lt}
use Rattle.lists.specs.Lists.{some, up_to, Decides}
use Rattle.root.specs.Doubles.{◌⊖◌, ◌⊗◌, zero_f}
use Rattle.geometry.specs.Triangles.{Triangle, tri, mapped, edges, reversed, contains_oriented_edge}
use Rattle.box_faces.specs.Faces.{project, ccw_is_outward}
use Rattle.edges.specs.Edges.{same_pair}
use Rattle.components.specs.Joined.{Joined, Among}
use Rattle.components.specs.Components.{components, component_of}
use Rattle.candidate_pool.specs.OpenEdges.{OpenEdge}
use Rattle.candidate_pool.specs.Pool.{Pool, point_of}

pub record Cap : Type 0 where
  pub face : ℕ
  pub corners : Triangle ℕ

abbrev pub cap : ℕ → Triangle ℕ → Cap
cap f t = record { face = f; corners = t }

-- "face 0 to 5 and three candidate numbers each"; fewer than four left over at the end are passed over: 1 refuses such a list first
unfoldable pub caps_of : List ℕ → List Cap
caps_of [] = []
caps_of (f ∷ []) = []
caps_of (f ∷ a ∷ []) = []
caps_of (f ∷ a ∷ b ∷ []) = []
caps_of (f ∷ a ∷ b ∷ c ∷ l) = cap f (tri a b c) ∷ caps_of l

abbrev pub cap_at : List Cap → ℕ → Cap
cap_at caps i = get_or caps i (cap 0 (tri 0 0 0))

module _ (pool : Pool) where
  unfoldable pub signed_area : Cap → Float
  signed_area t =
      let q = mapped (λ c. project t.face (point_of pool c)) t.corners in
      (q.b.u ⊖ q.a.u) ⊗ (q.c.v ⊖ q.a.v) ⊖ (q.b.v ⊖ q.a.v) ⊗ (q.c.u ⊖ q.a.u)

  -- "kept as given if (signed projected area > 0) equals `ccw_is_outward`, else its last two corners are swapped": an area of 0 is not above 0
  unfoldable pub outward : Cap → Cap
  outward t = cap t.face (cond (beq (lt zero_f (signed_area t)) (ccw_is_outward t.face)) t.corners (reversed t.corners))

  abbrev pub outward_caps : List Cap → List Cap
  outward_caps caps = map outward caps

-- "Edges here and in the chain rule, open ones too, are pairs of candidates": an open edge is a face and two candidates, as it runs
unfoldable pub is_open_pair : List OpenEdge → ℕ × ℕ → Bool
is_open_pair boundary s = some (λ e. same_pair s (e.from, e.to)) boundary

-- boundary: the open edges; caps: the supplied triangles, turned outward
module _ (boundary : List OpenEdge) (caps : List Cap) where
  -- "A seed lies on an open edge's face and, so turned, holds that edge backwards"
  unfoldable pub is_seed : ℕ → Bool
  is_seed i = some (λ e. eqb e.face (cap_at caps i).face && contains_oriented_edge (cap_at caps i).corners e.to e.from) boundary

  -- "on whatever faces, share one if both hold the pair, either way round"; "none an open mesh edge"
  unfoldable pub share_edge : ℕ → ℕ → Bool
  share_edge i j = some (λ s. not (is_open_pair boundary s) && some (same_pair s) (edges (cap_at caps j).corners)) (edges (cap_at caps i).corners)

  abbrev pub places : List ℕ
  places = up_to (length caps)

  unfoldable pub selected : List Bool
  selected = let cs = components share_edge places in map (λ i. some is_seed (component_of cs i)) places

  -- "joined to one by a chain of shared edges"
  pub record ToSeed (i : ℕ) : Type 0 where
    pub seed : ℕ
    pub supplied : seed < length caps
    pub seeds : T (is_seed seed)
    pub chain : Joined (Among share_edge places) i seed

  pub record Selects (chosen : List Bool) : Type 0 where
    pub long : length chosen ≡ length caps
    pub exactly : (i : ℕ) → i < length caps → Decides (ToSeed i) (get_or chosen i false)
