-- What boundary components lists (document 02, E13), computed by the definitions: C8's square, which the paragraph names, and small lists that each show one rule. Assumes
-- nothing.
use Prim.Native.Nat.{ℕ}
use mathlib.Core.Path.{◌≡◌, refl}
use mathlib.Core.List.{List, [], ◌∷◌, flat_map}
use lib.ListN.{replicate}
use Rattle.lists.specs.Lists.{every, some, keep, place, sort_by, insert_by, distinct_from, up_from}
use Rattle.geometry.specs.Triangles.{threes}
use Rattle.edges.specs.Edges.{same_pair, pair_before, open_edges, pair_words}
use Rattle.components.specs.Components.{components}
use Rattle.refusals.specs.Refusals.{documented, first_refusal}
use Rattle.refusals.specs.Answers.{reply_with, room_tests}
use Rattle.input_tests.specs.Front.{limits, ragged, too_many, admitted, bad_index, work_need}
use Rattle.irregular_edges.specs.Irregular.{same_side, is_irregular, irregular_edges}
use Rattle.boundary_groups.specs.Groups.{share_end, together, groups, open_pairs, boundary_components, is_ring, component_words}
use Rattle.boundary_components.specs.Boundary.{boundary_tests, boundary_outputs}

-- open edges, components, irregular edges
abbrev lists : List ℕ → List (List ℕ)
lists fs =
    let cs = boundary_components (threes fs) in
    pair_words (flat_map (λ g. g) cs) ∷ component_words cs ∷ pair_words (irregular_edges (threes fs)) ∷ []

abbrev reply : ℕ → List ℕ → ℕ → ℕ → List ℕ → List ℕ
reply vertices fs ceiling lent out = reply_with (boundary_tests vertices fs (limits ceiling lent)) (boundary_outputs (threes fs) out out out out out out)

abbrev square : List ℕ
square = 0 ∷ 1 ∷ 2 ∷ 0 ∷ 2 ∷ 3 ∷ []

abbrev tetrahedron : List ℕ
tetrahedron = 0 ∷ 2 ∷ 1 ∷ 0 ∷ 1 ∷ 3 ∷ 0 ∷ 3 ∷ 2 ∷ 1 ∷ 2 ∷ 3 ∷ []

pub record BoundaryBlocks : Type 0 where
  -- "C8's square has one slit, a ring of four"
  c8 : lists square ≡ (0 ∷ 1 ∷ 0 ∷ 3 ∷ 1 ∷ 2 ∷ 2 ∷ 3 ∷ []) ∷ (4 ∷ 1 ∷ []) ∷ [] ∷ []
  -- 128 * (4 + 2) + 1024 words of work room, eight words of open edges; under a ceiling of 3 the vertex count is too large
  c8_reply : reply 4 square 65536 1792 (replicate 8 0) ≡ 0 ∷ 8 ∷ 2 ∷ 0 ∷ []
  c8_need : reply 4 square 65536 1791 (replicate 8 0) ≡ 7 ∷ 1792 ∷ []
  c8_room : reply 4 square 65536 1792 (replicate 7 0) ≡ 12 ∷ 8 ∷ []
  c8_ceiling : reply 4 square 3 1792 (replicate 8 0) ≡ 2 ∷ []
  closed : lists tetrahedron ≡ [] ∷ [] ∷ [] ∷ []
  -- two components, each a ring, in order of their smallest edge
  apart : lists (3 ∷ 4 ∷ 5 ∷ 0 ∷ 1 ∷ 2 ∷ []) ≡ (0 ∷ 1 ∷ 0 ∷ 2 ∷ 1 ∷ 2 ∷ 3 ∷ 4 ∷ 3 ∷ 5 ∷ 4 ∷ 5 ∷ []) ∷ (3 ∷ 1 ∷ 3 ∷ 1 ∷ []) ∷ [] ∷ []
  -- two triangles that meet in a vertex are one component and no ring
  meeting : lists (0 ∷ 1 ∷ 2 ∷ 0 ∷ 3 ∷ 4 ∷ []) ≡ (0 ∷ 1 ∷ 0 ∷ 2 ∷ 0 ∷ 3 ∷ 0 ∷ 4 ∷ 1 ∷ 2 ∷ 3 ∷ 4 ∷ []) ∷ (6 ∷ 0 ∷ []) ∷ [] ∷ []
  -- an edge a, a borne by one side is open and no ring, with as many edges as vertices; borne by three it is irregular
  loop : lists (0 ∷ 0 ∷ 1 ∷ []) ≡ (0 ∷ 0 ∷ []) ∷ (1 ∷ 0 ∷ []) ∷ [] ∷ []
  loops : lists (0 ∷ 0 ∷ 0 ∷ []) ≡ [] ∷ [] ∷ (0 ∷ 0 ∷ []) ∷ []
  -- two sides that run the same way
  turned : lists (0 ∷ 1 ∷ 2 ∷ 0 ∷ 1 ∷ 3 ∷ []) ≡ (0 ∷ 2 ∷ 0 ∷ 3 ∷ 1 ∷ 2 ∷ 1 ∷ 3 ∷ []) ∷ (4 ∷ 1 ∷ []) ∷ (0 ∷ 1 ∷ []) ∷ []

pub listed : BoundaryBlocks
unfolding place insert_by sort_by distinct_from up_from flat_map threes same_pair pair_before open_edges pair_words components documented first_refusal room_tests ragged too_many
    admitted bad_index work_need same_side is_irregular irregular_edges share_end together groups open_pairs boundary_components is_ring component_words boundary_tests
listed =
    record {
      c8 = refl;
      c8_reply = refl;
      c8_need = refl;
      c8_room = refl;
      c8_ceiling = refl;
      closed = refl;
      apart = refl;
      meeting = refl;
      loop = refl;
      loops = refl;
      turned = refl;
    }
