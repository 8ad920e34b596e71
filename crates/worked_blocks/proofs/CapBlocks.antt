-- Document 01's worked blocks of caps, computed by the definitions: C10, C13, C14 (of caps), C15; and answers of the Rust where its rules show: the two points at which the mesh comes
-- back unchanged, 10 and 11 with their places, caps that are dropped after their corners were entered, the first of each three corners, a face with two candidates. Assumes nothing.
use Prim.Native.Nat.{ℕ}
use mathlib.Core.Path.{◌≡◌, refl}
use mathlib.Core.List.{List, [], ◌∷◌, ◌++◌, flat_map}
use lib.ListN.{replicate}
use lib.Ieee.{Float, of_bits, of_int, round, add, sub, mul, div, neg, lt, le, eq}
use Rattle.lists.specs.Lists.{every, some, first, keep, place, insert_by, sort_by, distinct_from, up_from}
use Rattle.root.specs.Doubles.{bits, magnitude, within, larger, clamped, before, one, units_of, 1e-10}
use Rattle.root.specs.Root.{root, root_of_square, whole_root}
use Rattle.rounding.specs.Rounding as rounding
use Rattle.rounding.specs.Rounding.{half_up, rounded, key, beyond, far_key, ceil, whole_up}
use Rattle.geometry.specs.declared.aabb.AABB.{AABB}
use Rattle.geometry.specs.Points.{along, difference, dot, cross}
use Rattle.geometry.specs.Triangles.{threes, flat, contains_oriented_edge, sorted_vertices}
use Rattle.geometry.specs.Meshes.{Mesh, coordinates}
use Rattle.geometry.specs.Axes.{segments, grid_line, grid_size}
use Rattle.components.specs.Components.{components}
use Rattle.mesh_weld.specs.Cells.{key_of, same_key}
use Rattle.mesh_filter.specs.Filters.{same_corners}
use Rattle.edges.specs.Edges.{same_pair, pair_before, open_edges}
use Rattle.refusals.specs.Refusals.{documented, first_refusal}
use Rattle.refusals.specs.Answers.{room_tests, mesh_outputs, reply_with}
use Rattle.input_tests.specs.Front.{mesh_ceiling, limits, ragged, too_many, admitted, bad_index, in_range, eps_in_range, resolution_in_range, box_in_range, bad_box, grid_too_fine, work_need, far_keys}
use Rattle.box_faces.specs.Faces.{project, on_face, faces_of}
use Rattle.candidate_pool.specs.Pool.{by_key, renewed, listed, number_for, insert}
use Rattle.candidate_grids.specs.Grid.{grid_point, skipped, grid_at, face_grid, grid}
use Rattle.candidate_edges.specs.Surface.{enter_edge, edge_surface, corner_vertices, mesh_pool}
use Rattle.candidate_surface.specs.Candidates.{candidates, no_two_ends}
use Rattle.closure_tests.specs.Tests.{closure_tests, stray_edge, edge_tests}
use Rattle.cap_triangles.specs.Selection.{caps_of, signed_area, outward, is_seed, is_open_pair, share_edge, selected}
use Rattle.cap_triangles.specs.Listed.{bad_cap, bad_cap_place, missing_edge, missing_place}
use Rattle.caps.specs.declared.mode.BoundaryClosure.{BoundaryClosure}
use Rattle.caps.specs.declared.mode.BoundaryClosure.TheVariants.{None, ClosePositive, CloseNegative}
use Rattle.cap_closing.specs.Closing.{taken, new_vertices, vertex_for, closed_points, cap_corners, is_large, cap_facets, own_facets, closed}
use Rattle.candidate_surface.specs.Asked.{asked}
use Rattle.caps.specs.Operation.{surface, cap_tests, caps_tests, caps_result}

abbrev +0 : Float
+0 = bits 0x0000_0000_0000_0000

abbrev 2^-21 : Float
2^-21 = bits 0x3ea0_0000_0000_0000

abbrev 2^-20 : Float
2^-20 = bits 0x3eb0_0000_0000_0000

abbrev 0·01 : Float
0·01 = bits 0x3f84_7ae1_47ae_147b

abbrev 0·1 : Float
0·1 = bits 0x3fb9_9999_9999_999a

abbrev 1/4 : Float
1/4 = bits 0x3fd0_0000_0000_0000

abbrev 1/2 : Float
1/2 = bits 0x3fe0_0000_0000_0000

abbrev +1 : Float
+1 = bits 0x3ff0_0000_0000_0000

abbrev +2 : Float
+2 = bits 0x4000_0000_0000_0000

abbrev +257 : Float
+257 = bits 0x4070_1000_0000_0000

abbrev +4611686 : Float
+4611686 = bits 0x4151_9799_8000_0000

abbrev +4611687 : Float
+4611687 = bits 0x4151_9799_c000_0000

abbrev box_to : Float → Float → Float → AABB
box_to x y z = record { min_corner = +0 ∷ +0 ∷ +0 ∷ []; max_corner = x ∷ y ∷ z ∷ [] }

abbrev lone : List ℕ
lone = 0 ∷ 1 ∷ 2 ∷ []

-- the facet (x,0,z), (1,0,z), (0,1,z)
abbrev points10 : Float → Float → List Float
points10 x z = x ∷ +0 ∷ z ∷ +1 ∷ +0 ∷ z ∷ +0 ∷ +1 ∷ z ∷ []

-- a square of side s at the height h, as two facets facing up
abbrev square : Float → Float → List Float
square s h = +0 ∷ +0 ∷ h ∷ s ∷ +0 ∷ h ∷ s ∷ s ∷ h ∷ +0 ∷ s ∷ h ∷ []

abbrev square_facets : List ℕ
square_facets = 0 ∷ 1 ∷ 2 ∷ 0 ∷ 2 ∷ 3 ∷ []

-- Its candidates: 0 to 3 are the mesh vertices 0, 1, 3, 2; then (0,0,0), (0,0,1), (0,1,0), (0,1,1), (1,0,0), (1,0,1), (1,1,0), (1,1,1).
-- "each side face in four triangles (two below, two above) and top and bottom in two"
abbrev x_min : List ℕ
x_min = 0 ∷ 4 ∷ 6 ∷ 2 ∷ 0 ∷ 4 ∷ 2 ∷ 0 ∷ 0 ∷ 0 ∷ 2 ∷ 7 ∷ 0 ∷ 0 ∷ 7 ∷ 5 ∷ []

abbrev x_max : List ℕ
x_max = 1 ∷ 8 ∷ 10 ∷ 3 ∷ 1 ∷ 8 ∷ 3 ∷ 1 ∷ 1 ∷ 1 ∷ 3 ∷ 11 ∷ 1 ∷ 1 ∷ 11 ∷ 9 ∷ []

abbrev others : List ℕ
others =
    2 ∷ 4 ∷ 8 ∷ 1 ∷ 2 ∷ 4 ∷ 1 ∷ 0 ∷ 2 ∷ 0 ∷ 1 ∷ 9 ∷ 2 ∷ 0 ∷ 9 ∷ 5 ∷ 3 ∷ 6 ∷ 10 ∷ 3 ∷ 3 ∷ 6 ∷ 3 ∷ 2 ∷ 3 ∷ 2 ∷ 3 ∷ 11 ∷ 3 ∷ 2 ∷ 11 ∷ 7
    ∷ 4 ∷ 4 ∷ 8 ∷ 10 ∷ 4 ∷ 4 ∷ 10 ∷ 6 ∷ 5 ∷ 5 ∷ 9 ∷ 11 ∷ 5 ∷ 5 ∷ 11 ∷ 7 ∷ []

abbrev list15 : List ℕ
list15 = x_min ++ x_max ++ others

-- far more room than any of them needs
abbrev reply : List Float → List ℕ → List ℕ → AABB → Float → Float → BoundaryClosure → List ℕ
reply vs fs caps box eps resolution mode =
    let q = asked box eps resolution in
    reply_with (caps_tests vs fs caps q mode (limits mesh_ceiling 1000000)) (mesh_outputs (caps_result vs fs caps q mode) (replicate 1000 +0) [] (replicate 1000 0) [])

abbrev reply15 : List ℕ → BoundaryClosure → List ℕ
reply15 caps mode = reply (square +1 1/2) square_facets caps (box_to +1 +1 +1) 1e-10 +1 mode

abbrev mesh15 : List ℕ → BoundaryClosure → Mesh
mesh15 caps mode = caps_result (square +1 1/2) square_facets caps (asked (box_to +1 +1 +1) 1e-10 +1) mode

-- the ten caps of the lower half
abbrev lower : List ℕ
lower =
    4 ∷ 3 ∷ 5 ∷ 4 ∷ 0 ∷ 3 ∷ 6 ∷ 7 ∷ 2 ∷ 6 ∷ 2 ∷ 1 ∷ 4 ∷ 6 ∷ 1 ∷ 4 ∷ 1 ∷ 0 ∷ 5 ∷ 2 ∷ 7 ∷ 5 ∷ 3 ∷ 2 ∷ 4 ∷ 7 ∷ 6 ∷ 4 ∷ 5 ∷ 7 ∷ []

-- and of the upper
abbrev upper : List ℕ
upper =
    0 ∷ 4 ∷ 3 ∷ 0 ∷ 5 ∷ 4 ∷ 1 ∷ 2 ∷ 6 ∷ 1 ∷ 6 ∷ 7 ∷ 0 ∷ 1 ∷ 7 ∷ 0 ∷ 7 ∷ 5 ∷ 3 ∷ 6 ∷ 2 ∷ 3 ∷ 4 ∷ 6 ∷ 5 ∷ 7 ∷ 6 ∷ 5 ∷ 6 ∷ 4 ∷ []

pub record WorkedBlocks : Type 0 where
  -- "with z = 0: not refused by 9": an empty list lacks the first open edge
  c10 : reply (points10 +0 +0) lone [] (box_to +2 +2 +2) 1e-10 +2 ClosePositive ≡ 11 ∷ 0 ∷ []
  c9 : reply (points10 +0 +1) lone [] (box_to +2 +2 +2) 1e-10 +2 ClosePositive ≡ 9 ∷ 1 ∷ 2 ∷ []
  -- "257: refusal 6"
  c13 : reply (points10 +0 +0) lone [] (box_to +257 +1 +1) +0 +1 ClosePositive ≡ 6 ∷ []
  -- "4,611,686: accepted; 4,611,687: refusal 8"
  c14_near : reply (points10 +4611686 +0) lone [] (box_to +2 +2 +2) +0 +2 ClosePositive ≡ 11 ∷ 0 ∷ []
  c14_far : reply (points10 +4611687 +0) lone [] (box_to +2 +2 +2) +0 +2 ClosePositive ≡ 8 ∷ []
  -- "positive writes the ten caps of the lower half, negative the ten of the upper, eight vertices each"
  c15_positive : flat (mesh15 list15 ClosePositive).facets ≡ square_facets ++ lower
  c15_points : coordinates (mesh15 list15 ClosePositive).points ≡ square +1 1/2 ++ (+0 ∷ +0 ∷ +0 ∷ +0 ∷ +1 ∷ +0 ∷ +1 ∷ +0 ∷ +0 ∷ +1 ∷ +1 ∷ +0 ∷ [])
  c15_negative : flat (mesh15 list15 CloseNegative).facets ≡ 0 ∷ 2 ∷ 1 ∷ 0 ∷ 3 ∷ 2 ∷ upper
  c15_above : coordinates (mesh15 list15 CloseNegative).points ≡ square +1 1/2 ++ (+0 ∷ +1 ∷ +1 ∷ +0 ∷ +0 ∷ +1 ∷ +1 ∷ +1 ∷ +1 ∷ +1 ∷ +0 ∷ +1 ∷ [])

pub record Rules : Type 0 where
  reply_positive : reply15 list15 ClosePositive ≡ 0 ∷ 24 ∷ 36 ∷ []
  reply_negative : reply15 list15 CloseNegative ≡ 0 ∷ 24 ∷ 36 ∷ []
  -- a mode that leaves the surface open: the list is not looked at
  left_open : reply15 (9 ∷ 9 ∷ 9 ∷ 9 ∷ []) None ≡ 0 ∷ 12 ∷ 6 ∷ []
  -- a ragged list is, in every mode
  left_ragged : reply15 (9 ∷ 9 ∷ 9 ∷ []) None ≡ 1 ∷ []
  -- a triangle of XMin with candidates of XMax; a candidate twice; faces that descend; 11 is not tested before
  bad_place : reply15 (x_min ++ (0 ∷ 8 ∷ 10 ∷ 3 ∷ [])) ClosePositive ≡ 10 ∷ 4 ∷ []
  bad_repeat : reply15 (x_min ++ (1 ∷ 8 ∷ 10 ∷ 3 ∷ 1 ∷ 8 ∷ 3 ∷ 8 ∷ [])) ClosePositive ≡ 10 ∷ 5 ∷ []
  bad_order : reply15 (x_max ++ x_min) ClosePositive ≡ 10 ∷ 4 ∷ []
  bad_face : reply15 (6 ∷ 4 ∷ 6 ∷ 2 ∷ []) ClosePositive ≡ 10 ∷ 0 ∷ []
  -- the open edges run 0 1 on YMin, 2 0 on XMin, 1 3 on XMax, 3 2 on YMax: without XMin the second is missing, without XMax the third
  missing_second : reply15 (x_max ++ others) ClosePositive ≡ 11 ∷ 1 ∷ []
  missing_third : reply15 (x_min ++ others) ClosePositive ≡ 11 ∷ 2 ∷ []
  -- the first triangle given once more, from another corner and the other way round: written once
  once : flat (mesh15 (x_min ++ (0 ∷ 2 ∷ 4 ∷ 6 ∷ []) ++ x_max ++ others) ClosePositive).facets ≡ square_facets ++ lower
  -- a box of side 2^-20: ten caps dropped, the four new vertices remain
  dropped : reply (square 2^-20 2^-21) square_facets list15 (box_to 2^-20 2^-20 2^-20) 1e-10 2^-20 ClosePositive ≡ 0 ∷ 24 ∷ 6 ∷ []
  -- a closed mesh, which has no open edge, is not turned
  closed_mesh_lem :
      flat (caps_result (1/4 ∷ 1/4 ∷ 1/4 ∷ 1/2 ∷ 1/4 ∷ 1/4 ∷ 1/4 ∷ 1/2 ∷ 1/4 ∷ 1/4 ∷ 1/4 ∷ 1/2 ∷ [])
      (0 ∷ 2 ∷ 1 ∷ 0 ∷ 1 ∷ 3 ∷ 1 ∷ 2 ∷ 3 ∷ 0 ∷ 3 ∷ 2 ∷ []) (9 ∷ 9 ∷ 9 ∷ 9 ∷ [])
      (asked (box_to +1 +1 +1) 1e-10 +1) CloseNegative).facets
      ≡ 0 ∷ 2 ∷ 1 ∷ 0 ∷ 1 ∷ 3 ∷ 1 ∷ 2 ∷ 3 ∷ 0 ∷ 3 ∷ 2 ∷ []
  -- a box thinner than eps: two candidates on each face, so that 11 does not apply; the facet is turned
  few : flat (caps_result (+0 ∷ +0 ∷ +0 ∷ +0 ∷ +1 ∷ +0 ∷ +0 ∷ +0 ∷ 0·01 ∷ []) lone [] (asked (box_to 0·1 0·1 0·1) +1 +1) CloseNegative).facets ≡ 0 ∷ 2 ∷ 1 ∷ []
  few_reply : reply (+0 ∷ +0 ∷ +0 ∷ +0 ∷ +1 ∷ +0 ∷ +0 ∷ +0 ∷ 0·01 ∷ []) lone [] (box_to 0·1 0·1 0·1) +1 +1 CloseNegative ≡ 0 ∷ 9 ∷ 3 ∷ []

pub computed : WorkedBlocks
unfolding place insert_by sort_by distinct_from up_from flat_map magnitude within larger clamped before one units_of root root_of_square whole_root half_up rounded key
    beyond far_key ceil whole_up rounding.segments_over along difference dot cross threes contains_oriented_edge sorted_vertices segments grid_line grid_size components key_of
    same_key same_corners same_pair pair_before open_edges documented first_refusal ragged too_many admitted bad_index in_range eps_in_range resolution_in_range box_in_range bad_box grid_too_fine
    work_need far_keys room_tests project on_face faces_of by_key renewed listed number_for insert grid_point skipped grid_at face_grid grid enter_edge edge_surface corner_vertices
    mesh_pool candidates closure_tests stray_edge edge_tests no_two_ends caps_of signed_area outward is_seed is_open_pair share_edge selected bad_cap bad_cap_place missing_edge missing_place
    taken new_vertices vertex_for closed_points cap_corners is_large cap_facets own_facets closed surface cap_tests caps_result of_bits of_int round add sub mul div neg lt le eq
computed = record { c10 = refl; c9 = refl; c13 = refl; c14_near = refl; c14_far = refl; c15_positive = refl; c15_points = refl; c15_negative = refl; c15_above = refl }

pub rules : Rules
unfolding place insert_by sort_by distinct_from up_from flat_map magnitude within larger clamped before one units_of root root_of_square whole_root half_up rounded key
    beyond far_key ceil whole_up rounding.segments_over along difference dot cross threes contains_oriented_edge sorted_vertices segments grid_line grid_size components key_of
    same_key same_corners same_pair pair_before open_edges documented first_refusal ragged too_many admitted bad_index in_range eps_in_range resolution_in_range box_in_range bad_box grid_too_fine
    work_need far_keys room_tests project on_face faces_of by_key renewed listed number_for insert grid_point skipped grid_at face_grid grid enter_edge edge_surface corner_vertices
    mesh_pool candidates closure_tests stray_edge edge_tests no_two_ends caps_of signed_area outward is_seed is_open_pair share_edge selected bad_cap bad_cap_place missing_edge missing_place
    taken new_vertices vertex_for closed_points cap_corners is_large cap_facets own_facets closed surface cap_tests caps_result of_bits of_int round add sub mul div neg lt le eq
rules =
    record {
      reply_positive = refl;
      reply_negative = refl;
      left_open = refl;
      left_ragged = refl;
      bad_place = refl;
      bad_repeat = refl;
      bad_order = refl;
      bad_face = refl;
      missing_second = refl;
      missing_third = refl;
      once = refl;
      dropped = refl;
      closed_mesh_lem = refl;
      few = refl;
      few_reply = refl;
    }
