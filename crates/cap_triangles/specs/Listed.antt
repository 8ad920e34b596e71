-- Tests 10 and 11: what makes a supplied list of cap triangles faulty (document 01, "Refusals"). Assumes nothing.
--   bad_cap, bad_cap_place           a triangle that 10 names; and the place of the first, or how many there are if there is none
--   missing_edge, missing_place     an open edge that 11 names; and the place of the first
--   FirstPlace      such a place as an answer: none where it is how many there are
use Rattle.std.specs.Prelude.{ℕ, ◌-◌, ◌<◌, ◌≡◌, Bool, not, ◌&&◌, ◌||◌, List, Option, MatchOption, eqb, leb, ltb, length}
use Rattle.lists.specs.Lists.{some, place, has, up_to}
use Rattle.geometry.specs.Triangles.{vertices, edges}
use Rattle.edges.specs.Edges.{same_pair}
use Rattle.candidate_pool.specs.OpenEdges.{OpenEdge}
use Rattle.candidate_pool.specs.Pool.{Pool, face_list}
use Rattle.cap_triangles.specs.Selection.{Cap, cap_at}

module _ (pool : Pool) (caps : List Cap) where
  -- "face above 5 or descending, a repeated candidate, or one not in that face's list": the first triangle has none before it
  unfoldable pub bad_cap : ℕ → Bool
  bad_cap i =
      let t = cap_at caps i in
      ltb 5 t.face || (ltb t.face (cap_at caps (i - 1)).face
      || (some (λ s. eqb s.0 s.1) (edges t.corners)
      || some (λ c. not (has (face_list pool t.face) c)) (vertices t.corners)))

  unfoldable pub bad_cap_place : ℕ
  bad_cap_place = place bad_cap (up_to (length caps))

  -- "a face with three or more candidates has an oriented open edge that, either way round, is no edge of any triangle supplied for it"
  unfoldable pub missing_edge : OpenEdge → Bool
  missing_edge e =
      leb 3 (length (face_list pool e.face))
      && not (some (λ t. eqb t.face e.face && some (same_pair (e.from, e.to)) (edges t.corners)) caps)

  unfoldable pub missing_place : List OpenEdge → ℕ
  missing_place boundary = place missing_edge boundary

abbrev pub FirstPlace : ℕ → ℕ → Option ℕ → Type 0
FirstPlace at count answer = MatchOption answer (at ≡ count) (λ i. (i ≡ at) × (i < count))
