-- Document 01's starred worked blocks, "proved from the definitions as a group: a single list, a single claim about every row".
-- A row says what the definitions give and what document 01 states; the claim is that they are equal, and it is computed.
use mathlib.Core.Path.{◌≡◌, refl, subst⁻¹}
use Prim.Native.Nat.{ℕ}
use mathlib.Core.Bool.{Bool, true, false}
use mathlib.Core.List.{List, [], ◌∷◌, map, flat_map, Memᴰ}
use mathlib.Core.Option.{or_else}
use lib.Ieee.{Float, of_bits, of_int, round, add, sub, mul, div, neg, lt, le, eq}
use lib.IntN.{ℤ, pos, negsuc}
use Rattle.lists.specs.Lists.{every, some, first, keep, place, insert_by, sort_by, distinct_from, up_from}
use Rattle.root.specs.Doubles.{bits, 1e-10, magnitude, within, larger, one, units_of}
use Rattle.root.specs.Root.{root, root_of_square, whole_root}
use Rattle.rounding.specs.Rounding as rounding
use Rattle.rounding.specs.Rounding.{ceil, whole_up, half_up, rounded, key, beyond, far_key}
use Rattle.geometry.specs.declared.aabb.AABB.{AABB}
use Rattle.std.specs.Prelude.{Option, None}
use Rattle.geometry.specs.Points.{pt, along, difference, dot, cross, norm}
use Rattle.geometry.specs.Triangles.{threes, sorted_vertices}
use Rattle.geometry.specs.Meshes.{Mesh, mesh_of, mesh_lengths}
use Rattle.refusals.specs.Refusals.{documented, first_refusal}
use Rattle.refusals.specs.Answers.{reply_in, room_tests}
use Rattle.input_tests.specs.Front.{mesh_ceiling, limits, ragged, too_many, admitted, bad_index, in_range, eps_in_range, resolution_in_range, box_in_range, bad_box, grid_too_fine, work_need, far_keys}
use Rattle.components.specs.Components.{components}
use Rattle.mesh_weld.specs.Weld.{weld_next, weld}
use Rattle.mesh_weld.specs.Cells.{key_of, same_key, around, near, neighbours, cells}
use Rattle.mesh_filter.specs.Filters.{has_repeated_corner, is_flat, same_corners, is_duplicate, filtered, passed_next, passed}
use Rattle.mesh_compact.specs.Status.{share_vertex, is_alone, status, kept_facets}
use Rattle.mesh_compact.specs.Compact.{renumbered, compacted}
use Rattle.mesh_cleanup.specs.Clean.{CleanAsked, clean_asked, welded_mesh, cleaned_mesh, clean_result, clean_tests}
use Rattle.aabb_planes.specs.Planes.{inside, snap_to, snapped, crossing, interpolated, on_plane}
use Rattle.aabb_polygons.specs.Polygons.{crossed, side_clipped, walk, clip_to_plane, clip_polygon}
use Rattle.aabb_facets.specs.Clipped.{shared_number, fan, fanned, inside_box, share_once, sharing, clip_facet, clip_facets, clipped}
use Rattle.aabb_planes.specs.declared.clip.Clip.{Clip}
use Rattle.aabb_clipping.specs.Clip.{clip_asked, clip_tests, clip_result}
use Rattle.geometry.specs.Axes.{segments, grid_line, axis_points, grid_size}
use Rattle.edges.specs.Edges.{same_pair, pair_before, open_edges}
use Rattle.box_faces.specs.Faces.{on_face, faces_of}
use Rattle.candidate_surface.specs.declared.asked.Asked.{Asked}
use Rattle.candidate_surface.specs.Asked.{asked}
use Rattle.closure_tests.specs.Tests.{closure_tests, stray_edge, edge_tests}
use Rattle.candidate_outputs.specs.Outputs.{candidate_lengths}
use Rattle.boundary_closure.specs.Operation.{candidates_tests, candidates_result}

-- ---- the document's numbers, by their bits

abbrev pub +0 : Float
+0 = bits 0x0000_0000_0000_0000

abbrev pub -1 : Float
-1 = bits 0xbff0_0000_0000_0000

abbrev pub +1 : Float
+1 = bits 0x3ff0_0000_0000_0000

abbrev pub +2 : Float
+2 = bits 0x4000_0000_0000_0000

abbrev pub 1-2^-53 : Float
1-2^-53 = bits 0x3fef_ffff_ffff_ffff

abbrev pub 0·75×2^-53 : Float
0·75×2^-53 = bits 0x3c98_0000_0000_0000

abbrev pub 2^-20 : Float
2^-20 = bits 0x3eb0_0000_0000_0000

abbrev pub 1/1024 : Float
1/1024 = bits 0x3f50_0000_0000_0000

abbrev pub -1/2048 : Float
-1/2048 = bits 0xbf40_0000_0000_0000

abbrev pub +1/2048 : Float
+1/2048 = bits 0x3f40_0000_0000_0000

abbrev pub -3/8192 : Float
-3/8192 = bits 0xbf38_0000_0000_0000

abbrev pub +3/8192 : Float
+3/8192 = bits 0x3f38_0000_0000_0000

abbrev pub 1/2 : Float
1/2 = bits 0x3fe0_0000_0000_0000

abbrev pub +4 : Float
+4 = bits 0x4010_0000_0000_0000

abbrev pub +8 : Float
+8 = bits 0x4020_0000_0000_0000

abbrev pub +13 : Float
+13 = bits 0x402a_0000_0000_0000

abbrev pub +169 : Float
+169 = bits 0x4065_2000_0000_0000

-- ---- rows

pub record Row : Type 1 where
  pub Result : Type 0
  pub given : Result
  pub stated : Result

abbrev pub row : {A : Type 0} → A → A → Row
row g s = record { Result = _; given = g; stated = s }

-- the replies of operations under document 01's ceiling, for so many words of work room lent and outputs of these lengths
abbrev pub clip_reply : List Float → List ℕ → Clip → ℕ → List ℕ → List ℕ
clip_reply vs fs q lent outs = reply_in (clip_tests vs fs q (limits mesh_ceiling lent)) (mesh_lengths (clip_result vs fs q)) outs

abbrev pub clean_reply : List Float → List ℕ → CleanAsked → ℕ → List ℕ → List ℕ
clean_reply vs fs q lent outs = reply_in (clean_tests vs fs q (limits mesh_ceiling lent)) (mesh_lengths (clean_result vs fs q)) outs

abbrev pub candidates_reply : List Float → List ℕ → Asked → ℕ → List ℕ → List ℕ
candidates_reply vs fs q lent outs = reply_in (candidates_tests vs fs q (limits mesh_ceiling lent)) (candidate_lengths (candidates_result vs fs q)) outs

-- C1: "eps 1/1024, points (-1/2048,0,0), (1/2048,0,0), no facets: keys -1 and 1, two vertices, though the distance is eps". The keys, the distance, the reply with just
-- enough room, and the cleaned mesh
abbrev pub points1 : List Float
points1 = -1/2048 ∷ +0 ∷ +0 ∷ +1/2048 ∷ +0 ∷ +0 ∷ []

abbrev pub c1 : Row
c1 =
    row {A = List ℤ × Float × List ℕ × Mesh} (
      map (key 1/1024) (-1/2048 ∷ +1/2048 ∷ []),
      norm (difference (pt -1/2048 +0 +0) (pt +1/2048 +0 +0)),
      clean_reply points1 [] (clean_asked 1/1024) 1280
          (6 ∷ 0 ∷ []),
      clean_result points1 [] (clean_asked 1/1024),
    )
    (negsuc 0 ∷ pos 1 ∷ [], 1/1024, 0 ∷ 6 ∷ 0 ∷ [], mesh_of points1 [])

-- C3: "the same eps, (±3/8192 on all axes, equal signs): cleaning keeps two, though both have key (0,0,0)"
abbrev pub points3 : List Float
points3 = -3/8192 ∷ -3/8192 ∷ -3/8192 ∷ +3/8192 ∷ +3/8192 ∷ +3/8192 ∷ []

abbrev pub c3 : Row
c3 =
    row {A = List ℤ × List ℕ × Mesh} (map (key 1/1024) points3, clean_reply points3 [] (clean_asked 1/1024) 1280 (6 ∷ 0 ∷ []), clean_result points3 [] (clean_asked 1/1024))
    (pos 0 ∷ pos 0 ∷ pos 0 ∷ pos 0 ∷ pos 0 ∷ pos 0 ∷ [], 0 ∷ 6 ∷ 0 ∷ [], mesh_of points3 [])

-- C4: "XMin 1, eps 0.75 × 2^-53, from x = 1 - 2^-53 to x = 0: inside differs, crossing nothing"
abbrev pub box4 : AABB
box4 = record { min_corner = +1 ∷ +1 ∷ +1 ∷ []; max_corner = +2 ∷ +2 ∷ +2 ∷ [] }

abbrev pub c4 : Row
c4 =
    row {A = Bool × Bool × Option Float}
    (inside box4 0·75×2^-53 0 (pt 1-2^-53 +1 +1), inside box4 0·75×2^-53 0 (pt +0 +1 +1), crossing 0·75×2^-53 +1 1-2^-53 +0)
    (true, false, None)

-- C5: "facet (0,0,0), (4,0,0), (0,4,0), box (-1,-1,-1) to (2,8,8), eps 2^-20: vertices (0,0,0), (2,0,0), (2,2,0), (0,4,0); facets 0 1 2 and 0 2 3".
-- The operation's reply, with just enough room, and its result
abbrev pub box5 : AABB
box5 = record { min_corner = -1 ∷ -1 ∷ -1 ∷ []; max_corner = +2 ∷ +8 ∷ +8 ∷ [] }

abbrev pub points5 : List Float
points5 = +0 ∷ +0 ∷ +0 ∷ +4 ∷ +0 ∷ +0 ∷ +0 ∷ +4 ∷ +0 ∷ []

abbrev pub c5 : Row
c5 =
    row {A = List ℕ × Mesh}
    (clip_reply points5 (0 ∷ 1 ∷ 2 ∷ []) (clip_asked box5 2^-20) 1536 (12 ∷ 6 ∷ []), clip_result points5 (0 ∷ 1 ∷ 2 ∷ []) (clip_asked box5 2^-20))
    (0 ∷ 12 ∷ 6 ∷ [], mesh_of (+0 ∷ +0 ∷ +0 ∷ +2 ∷ +0 ∷ +0 ∷ +2 ∷ +2 ∷ +0 ∷ +0 ∷ +4 ∷ +0 ∷ []) (0 ∷ 1 ∷ 2 ∷ 0 ∷ 2 ∷ 3 ∷ []))

-- C6: "one sound facet cleaned: no vertex, no facet". C7: "facet 0 1 2 and facet 2 1 0: the same". With no room in the outputs
abbrev pub points6 : List Float
points6 = +0 ∷ +0 ∷ +0 ∷ +1 ∷ +0 ∷ +0 ∷ +0 ∷ +1 ∷ +0 ∷ []

abbrev pub c6 : Row
c6 =
    row {A = List ℕ × Mesh} (clean_reply points6 (0 ∷ 1 ∷ 2 ∷ []) (clean_asked 2^-20) 1536 (0 ∷ 0 ∷ []), clean_result points6 (0 ∷ 1 ∷ 2 ∷ []) (clean_asked 2^-20))
    (0 ∷ 0 ∷ 0 ∷ [], mesh_of [] [])

abbrev pub c7 : Row
c7 =
    row {A = List ℕ × Mesh}
    (clean_reply points6 (0 ∷ 1 ∷ 2 ∷ 2 ∷ 1 ∷ 0 ∷ []) (clean_asked 2^-20) 1664 (0 ∷ 0 ∷ []), clean_result points6 (0 ∷ 1 ∷ 2 ∷ 2 ∷ 1 ∷ 0 ∷ []) (clean_asked 2^-20))
    (0 ∷ 0 ∷ 0 ∷ [], mesh_of [] [])

-- C9: "box (0,0,0) to (2,2,2), resolution 2, eps 1e-10, facet (0,0,1), (1,0,1), (0,1,1): refusal 9, pair 1, 2". The operation's reply, with just enough work room
abbrev pub box9 : AABB
box9 = record { min_corner = +0 ∷ +0 ∷ +0 ∷ []; max_corner = +2 ∷ +2 ∷ +2 ∷ [] }

abbrev pub points9 : List Float
points9 = +0 ∷ +0 ∷ +1 ∷ +1 ∷ +0 ∷ +1 ∷ +0 ∷ +1 ∷ +1 ∷ []

abbrev pub c9 : Row
c9 = row (candidates_reply points9 (0 ∷ 1 ∷ 2 ∷ []) (asked box9 1e-10 +2) 4608 []) (9 ∷ 1 ∷ 2 ∷ [])

-- C11, C12: "axis from 0, length 8, resolution 4, eps 0: 0, 4, 8"; "length 0.5, resolution 4: two points". The first two axes of one box
abbrev pub box11 : AABB
box11 = record { min_corner = +0 ∷ +0 ∷ +0 ∷ []; max_corner = +8 ∷ 1/2 ∷ +8 ∷ [] }

abbrev pub c11 : Row
c11 = row (axis_points box11 +0 (λ k. +4) 0) (+0 ∷ +4 ∷ +8 ∷ [])

abbrev pub c12 : Row
c12 = row (axis_points box11 +0 (λ k. +4) 1) (+0 ∷ 1/2 ∷ [])

-- C16: "root of 169 is 13; of 0, 0"
abbrev pub c16 : Row
c16 = row (map root (+169 ∷ +0 ∷ [])) (+13 ∷ +0 ∷ [])

abbrev pub starred : List Row
starred = c1 ∷ c3 ∷ c4 ∷ c5 ∷ c6 ∷ c7 ∷ c9 ∷ c11 ∷ c12 ∷ c16 ∷ []

-- ---- the claim

abbrev pub All : List Row → Type 0
All [] = Unit {0}
All (r ∷ l) = (r.given ≡ r.stated) × All l

of_all : {r : Row} {l : List Row} → All l → Memᴰ r l → r.given ≡ r.stated
of_all a (Memᴰ.head {x} {xs} e) = subst⁻¹ (λ (q : Row). q.given ≡ q.stated) e a.0
of_all a (Memᴰ.tail {x} {xs} m) = of_all a.1 m

computed : All starred
unfolding distinct_from up_from threes magnitude within inside snap_to snapped crossing interpolated on_plane crossed side_clipped walk clip_to_plane clip_polygon along
    fan fanned inside_box shared_number share_once sharing clip_facet clip_facets clipped flat_map first_refusal documented ragged too_many admitted bad_index in_range eps_in_range
    box_in_range bad_box work_need room_tests clip_tests clip_result place insert_by sort_by half_up rounded key beyond far_key far_keys difference dot cross key_of same_key around near
    neighbours cells weld_next weld has_repeated_corner is_flat sorted_vertices same_corners is_duplicate filtered passed_next passed components share_vertex is_alone status
    or_else kept_facets renumbered compacted welded_mesh cleaned_mesh clean_result clean_tests larger one units_of root root_of_square whole_root whole_up ceil rounding.segments_over segments
    grid_line axis_points grid_size resolution_in_range grid_too_fine same_pair pair_before open_edges on_face faces_of closure_tests stray_edge edge_tests of_bits of_int round add sub mul div
    neg lt le eq
computed = (refl, (refl, (refl, (refl, (refl, (refl, (refl, (refl, (refl, (refl, tt))))))))))

pub every_row : {r : Row} → Memᴰ r starred → r.given ≡ r.stated
every_row m = of_all computed m
