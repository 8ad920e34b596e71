-- Document 01's worked blocks of candidates, computed by the definitions: C9, C10, C13, C3b and C15; and three answers of the Rust at an infinite side parameter, at a face
-- with two candidates and at the order of -0.0. A reader sees what the definitions say. Assumes nothing.
use Prim.Native.Nat.{ℕ}
use mathlib.Core.Path.{◌≡◌, refl}
use mathlib.Core.List.{List, [], ◌∷◌, map, flat_map}
use lib.Dec.{eqb}
use lib.ListN.{get_or, replicate}
use lib.Ieee.{Float, of_bits, to_bits, of_int, round, add, sub, mul, div, neg, lt, le, eq}
use Rattle.lists.specs.Lists.{every, some, first, keep, place, insert_by, sort_by, distinct_from, up_from}
use Rattle.root.specs.Doubles.{bits, magnitude, within, larger, clamped, before, 1e-10}
use Rattle.rounding.specs.Rounding as rounding
use Rattle.rounding.specs.Rounding.{half_up, rounded, key, beyond, far_key, ceil, whole_up}
use Rattle.geometry.specs.declared.aabb.AABB.{AABB}
use Rattle.geometry.specs.Points.{along}
use Rattle.geometry.specs.Triangles.{Triangle, tri, threes}
use Rattle.geometry.specs.Axes.{segments, grid_line, grid_size}
use Rattle.mesh_weld.specs.Cells.{key_of, same_key}
use Rattle.edges.specs.Edges.{same_pair, pair_before, open_edges}
use Rattle.refusals.specs.Refusals.{documented, first_refusal}
use Rattle.refusals.specs.Answers.{reply_with, room_tests}
use Rattle.input_tests.specs.Front.{mesh_ceiling, limits, ragged, too_many, admitted, bad_index, in_range, eps_in_range, resolution_in_range, box_in_range, bad_box, grid_too_fine, work_need, far_keys}
use Rattle.box_faces.specs.Faces.{project, face_bits, on_face, faces_of}
use Rattle.box_faces.specs.Sides.{face_sides, between_ends, along_side, on_side}
use Rattle.candidate_pool.specs.OpenEdges.{open_edge_words}
use Rattle.candidate_pool.specs.Pool.{by_key, renewed, listed, number_for, insert}
use Rattle.candidate_grids.specs.Grid.{grid_point, skipped, grid_at, face_grid, grid}
use Rattle.candidate_constraints.specs.Constraints.{constraint_words, consecutive, side_order, edge_places, face_constraints}
use Rattle.candidate_edges.specs.Surface.{enter_edge, edge_surface, corner_vertices, mesh_pool}
use Rattle.candidate_surface.specs.Candidates.{candidates, no_two_ends}
use Rattle.candidate_outputs.specs.Outputs.{candidate_words, list_words, candidate_outputs}
use Rattle.candidate_surface.specs.Asked.{asked}
use Rattle.closure_tests.specs.Tests.{closure_tests, stray_edge, edge_tests}
use Rattle.boundary_closure.specs.Operation.{candidates_tests, candidates_result}

abbrev +0 : Float
+0 = bits 0x0000_0000_0000_0000

abbrev 1/2 : Float
1/2 = bits 0x3fe0_0000_0000_0000

abbrev +1 : Float
+1 = bits 0x3ff0_0000_0000_0000

abbrev +2 : Float
+2 = bits 0x4000_0000_0000_0000

abbrev +257 : Float
+257 = bits 0x4070_1000_0000_0000

abbrev 1/1024 : Float
1/1024 = bits 0x3f50_0000_0000_0000

abbrev 3/8192-bits : ℕ
3/8192-bits = 0x3f38_0000_0000_0000

abbrev 3/8192 : Float
3/8192 = bits 3/8192-bits

abbrev -3/8192 : Float
-3/8192 = bits 0xbf38_0000_0000_0000

abbrev 5e-324 : Float
5e-324 = bits 0x0000_0000_0000_0001

abbrev 0·1 : Float
0·1 = bits 0x3fb9_9999_9999_999a

abbrev 0·01 : Float
0·01 = bits 0x3f84_7ae1_47ae_147b

abbrev 1+0·9e-10 : Float
1+0·9e-10 = bits 0x3ff0_0000_0006_2f4c

abbrev box_to : Float → Float → Float → AABB
box_to x y z = record { min_corner = +0 ∷ +0 ∷ +0 ∷ []; max_corner = x ∷ y ∷ z ∷ [] }

abbrev lone : List ℕ
lone = 0 ∷ 1 ∷ 2 ∷ []

-- far more room than any of them needs
abbrev room : List ℕ
room = replicate 1000 0

abbrev reply : List Float → List ℕ → AABB → Float → Float → List ℕ
reply vs fs box eps resolution =
    let q = asked box eps resolution in
    reply_with (candidates_tests vs fs q (limits mesh_ceiling 1000000)) (candidate_outputs (candidates_result vs fs q) room room room room room room room room)

abbrev outputs : List Float → List ℕ → AABB → Float → Float → List (List ℕ)
outputs vs fs box eps resolution =
    let r = candidates_result vs fs (asked box eps resolution) in
    candidate_words r.all ∷ list_words r.lists ∷ constraint_words r.constraints ∷ open_edge_words r.edges ∷ []

-- the facet (0,0,z), (1,0,z), (0,1,z)
abbrev points9 : Float → List Float
points9 z = +0 ∷ +0 ∷ z ∷ +1 ∷ +0 ∷ z ∷ +0 ∷ +1 ∷ z ∷ []

abbrev points3 : List Float
points3 = -3/8192 ∷ -3/8192 ∷ -3/8192 ∷ 3/8192 ∷ 3/8192 ∷ 3/8192 ∷ +0 ∷ +1 ∷ +0 ∷ []

abbrev points15 : List Float
points15 = +0 ∷ +0 ∷ 1/2 ∷ +1 ∷ +0 ∷ 1/2 ∷ +1 ∷ +1 ∷ 1/2 ∷ +0 ∷ +1 ∷ 1/2 ∷ []

-- the first corner lies just beyond the corner of the box
abbrev points_beyond : List Float
points_beyond = 1+0·9e-10 ∷ +1 ∷ +0 ∷ 1/2 ∷ 1/2 ∷ +0 ∷ 1/2 ∷ +1 ∷ +0 ∷ []

-- all three within eps of all six planes
abbrev points_few : List Float
points_few = +0 ∷ +0 ∷ +0 ∷ +0 ∷ +1 ∷ +0 ∷ +0 ∷ +0 ∷ 0·01 ∷ []

abbrev z_min_pairs : List ℕ → List (Triangle ℕ)
z_min_pairs l = keep (λ t. eqb t.a 4) (threes l)

abbrev outputs3 : List (List ℕ)
outputs3 = outputs points3 lone (box_to +1 +1 +1) 1/1024 +1

pub record WorkedBlocks : Type 0 where
  -- "refusal 9, pair 1, 2"
  c9 : reply (points9 +1) lone (box_to +2 +2 +2) 1e-10 +2 ≡ 9 ∷ 1 ∷ 2 ∷ []
  -- "with z = 0: not refused by 9"
  c10 : reply (points9 +0) lone (box_to +2 +2 +2) 1e-10 +2 ≡ 0 ∷ 50 ∷ 34 ∷ 87 ∷ 15 ∷ []
  -- "257: refusal 6"
  c13 : reply (points9 +0) lone (box_to +257 +1 +1) +0 +1 ≡ 6 ∷ []
  -- "the two points give one candidate, the later point": XMin, YMin and ZMin are 1, 4 and 16
  c3b_first : map (λ i. get_or (get_or outputs3 0 []) i 0) (0 ∷ 1 ∷ 2 ∷ 3 ∷ 4 ∷ []) ≡ 3/8192-bits ∷ 3/8192-bits ∷ 3/8192-bits ∷ 2 ∷ 21 ∷ []
  c3b_edges : get_or outputs3 3 [] ≡ 0 ∷ 1 ∷ 0 ∷ 4 ∷ 1 ∷ 0 ∷ 0 ∷ 0 ∷ 1 ∷ 4 ∷ 0 ∷ 1 ∷ []
  c3b : reply points3 lone (box_to +1 +1 +1) 1/1024 +1 ≡ 0 ∷ 40 ∷ 30 ∷ 72 ∷ 12 ∷ []
  -- a side of 5e-324: the side parameter of a point at 1 is infinite, and answered "nothing"
  infinite : reply (points9 +0) lone (box_to 5e-324 +1 +1) +0 +1 ≡ 0 ∷ 25 ∷ 24 ∷ 39 ∷ 15 ∷ []
  -- a box thinner than eps: two candidates on each face, so no constraint
  few : reply points_few lone (box_to 0·1 0·1 0·1) +1 +1 ≡ 0 ∷ 10 ∷ 18 ∷ 0 ∷ 36 ∷ []
  -- "the Rust's order puts -0.0 before 0.0": on the side that runs downward the box's corner, place 6, with t -0.0, stands before
  -- place 0, whose t was below 0 and became 0.0: 6 0 2 in that order
  downward : z_min_pairs (get_or (outputs points_beyond lone (box_to +1 +1 +1) 1e-10 +1) 2 []) ≡
      tri 4 0 1 ∷ tri 4 0 2 ∷ tri 4 0 5 ∷ tri 4 0 6 ∷ tri 4 1 2 ∷ tri 4 2 4 ∷ tri 4 3 4 ∷ tri 4
      3 5 ∷ []
  -- "12 candidates"
  c15 : reply points15 (0 ∷ 1 ∷ 2 ∷ 0 ∷ 2 ∷ 3 ∷ []) (box_to +1 +1 +1) 1e-10 +1 ≡ 0 ∷ 60 ∷ 38 ∷ 108 ∷ 12 ∷ []

pub computed : WorkedBlocks
unfolding place insert_by sort_by distinct_from up_from flat_map magnitude within larger clamped before half_up rounded key beyond far_key ceil whole_up
    rounding.segments_over along threes segments grid_line grid_size key_of same_key same_pair pair_before open_edges documented first_refusal ragged too_many admitted bad_index in_range
    eps_in_range resolution_in_range box_in_range bad_box grid_too_fine work_need far_keys room_tests project face_bits on_face faces_of face_sides between_ends along_side on_side by_key renewed
    listed number_for insert grid_point skipped grid_at face_grid grid consecutive side_order edge_places face_constraints enter_edge edge_surface corner_vertices mesh_pool candidates
    candidate_words list_words closure_tests stray_edge edge_tests no_two_ends candidates_result of_bits to_bits of_int round add sub mul div neg lt le eq
computed = record { c9 = refl; c10 = refl; c13 = refl; c3b_first = refl; c3b_edges = refl; c3b = refl; infinite = refl; few = refl; downward = refl; c15 = refl }
