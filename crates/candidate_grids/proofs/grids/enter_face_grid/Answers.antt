use Prim.Native.Nat.{ℕ, ◌+◌, ◌*◌, ◌^◌, ◌≤◌, ◌<◌}
use native.Mathlib.Omega.{arith}
use mathlib.Core.Path.{◌≡◌, refl, sym, ap, subst, ◌∙◌}
use lib.Ieee.{Float}
use Rattle.root.specs.Bounds.{Within}
use Rattle.geometry.specs.Boxes.{lowest, highest, axis, face_of}
use Rattle.geometry.proofs.Faces.{face_in}
use Rattle.input_tests.specs.Front.{by_axis}
use Rattle.box_faces.specs.Faces.{u_axis, v_axis}
use Rattle.box_faces.specs.Lines.{line_at}
use Rattle.candidate_pool.specs.Standing.{count_at}
use mathlib.Core.List.{flat_map}
use Rattle.lists.specs.Lists.{up_to}
use Rattle.candidate_grids.specs.declared.grids.Near.{Near}
use Rattle.candidate_grids.specs.Steps.{parts_of, line_of, skips_near, row_cell, row_at, PointsEntered}
use Rattle.candidate_grids.proofs.Entries.{entered_none, entered_more}
use Rattle.candidate_grids.proofs.Edged.{edges_ready}
use Rattle.candidate_grids.proofs.Facing.{v_low, parts_some, parts_cut, face_room, near_ready, row_ready, row_is, turn_size, face_line_in, gathered_holds, gathered_count, face_end}
use Rattle.candidate_grids.proofs.grids.enter_face_grid.Goals.{After-segments_at, After-grid_line, After-enter_grid_row}
use Rattle.candidate_grids.proofs.grids.enter_face_grid.Goals as goal

-- ---- what is known before the loop
abbrev face : After-segments_at → ℕ
face c = face_of c.args.face

abbrev last : After-segments_at → ℕ
last c = c.along-last.result

last_is : (c : After-segments_at) → last c ≡ parts_of c.args.cuts (u_axis (face c))
last_is c = c.along-last.ensures.value ∙ ap (parts_of c.args.cuts) c.uv_axes-axes.ensures.0

some : (c : After-segments_at) (k : ℕ) → 1 ≤ parts_of c.args.cuts k
some c k = parts_some c.args.cuts.grid.extents c.args.cuts.grid.eps c.args.cuts.grid.resolution k

few : (c : After-segments_at) (k : ℕ) → k < 3 → parts_of c.args.cuts k ≤ 256
few c k h = parts_cut c.args.cuts.grid.extents c.args.cuts.grid.eps c.args.cuts.grid.resolution _ c.args.cuts.cut k h

across_is : (c : After-segments_at) → c.across.result ≡ axis (face c)
across_is c = c.across.ensures.value

-- ---- and in a turn
along-u : (c : After-grid_line) → let f = face_of c.args.face in
    c.grid_line.result ≡ line_at (lowest c.args.cuts.grid.extents (u_axis f)) (highest c.args.cuts.grid.extents (u_axis f)) c.along-last.result c.loop-i.i
along-u c =
    let f = face_of c.args.face in
    c.grid_line.ensures ∙ ap (λ (a : ℕ). line_of c.args.cuts a c.loop-i.i) c.uv_axes-axes.ensures.0
    ∙ ap (λ (n : ℕ). line_at (lowest c.args.cuts.grid.extents (u_axis f)) (highest c.args.cuts.grid.extents (u_axis f)) n c.loop-i.i)
    (sym (c.along-last.ensures.value ∙ ap (parts_of c.args.cuts) c.uv_axes-axes.ensures.0))

-- ---- the needs
pub gather_segments-count-requires : goal.gather_segments-count-requires
gather_segments-count-requires c =
    let p = c.requires in
    edges_ready _ _ _ _ _ _ (face_in c.args.face) p.holds p.held _ p.size p.small p.edges (p.skips _ c.across.ensures.bound)

pub loop-i-init : goal.loop-i-init
loop-i-init c =
    (omega arith, entered_none _ _ _ _ _ (gathered_holds _ _ _ _ _ _ _ _ c.requires.holds _ c.gather_segments-count.ensures))

pub grid_line-requires : goal.grid_line-requires
grid_line-requires c = omega (arith, c.along-last.ensures.bound, c.loop-i-test.true)

pub enter_grid_row-requires : goal.enter_grid_row-requires
enter_grid_row-requires c =
    let s = (goal.at.enter_grid_row-requires c).After-segments_at in
    let p = c.requires in
    let f-in = face_in c.args.face in
    let least : 1 ≤ last s = let a = some s (u_axis (face s)) in omega (arith, last_is s) in
    let across = axis (face s) in
    let across-few : parts_of c.args.cuts across ≤ 256 = few s across (subst (λ (a : ℕ). a < 3) c.across.ensures.value c.across.ensures.bound) in
    let at_in : Within (2 ^ 48) c.face_line-at.result = subst (λ (x : Float). Within (2 ^ 48) x) (sym c.face_line-at.ensures)
    (face_line_in _ _ _ p.box_in f-in (some s across) across-few) in
    let room : count_at c.gather_segments-count.new.w + (last s + 1) * (parts_of c.args.cuts (v_axis (face s)) + 1) ≤ c.args.room.n
    = face_room _ _ c.args.cuts.grid.resolution c.args.room.n (face s) (last s) _
    c.args.w.now c.gather_segments-count.new.w (last_is s) refl (gathered_count _ _ _ _ _ _ _ _ p.holds _ c.gather_segments-count.ensures) p.few in
    row_ready _ _ _ _ _ _ _ _ _ _ (near_ready _ _ _ _ _ _ _ _ _ _ c.gather_segments-count.ensures c.segments_at.ensures p.edges p.size) _ c.loop-i.invariant.1 _ _
    f-in p.box_in c.loop-i-test.true c.along-last.ensures.bound least (few s (v_axis (face s)) (v_low (face s) f-in)) (some s (v_axis (face s))) room at_in
    (along-u (goal.at.enter_grid_row-requires c).After-grid_line)

-- the rows up to i were entered
turned : (c : After-enter_grid_row) → c.grid_line.result
    ≡ line_at (lowest c.args.cuts.grid.extents (u_axis (face_of c.args.face))) (highest c.args.cuts.grid.extents (u_axis (face_of c.args.face))) c.along-last.result c.loop-i.i
    → let v = c.gather_segments-count.new.w in
    let near : Near = record { at = c.segments_at.result; count = c.gather_segments-count.result; tolerance = by_axis c.args.skip c.across.result } in
    let f = face_of c.args.face in
    let last-v = parts_of c.args.cuts (v_axis f) in
    PointsEntered c.args.cuts.grid.eps c.args.room.n
    (flat_map (λ x. flat_map (row_cell (skips_near v near) c.args.cuts.grid.extents f (row_at c.args.cuts.grid.extents f c.face_line-at.result c.along-last.result x) last-v)
    (up_to (last-v + 1))) (up_to (c.loop-i.i + 1))) ((c.loop-i.i + 1) * (last-v + 1)) v c.enter_grid_row.new.w
turned c along =
    let p = c.requires in
    let i = c.loop-i.invariant in
    entered_more _ _ _ _ _ _ _ _ _ _ _ i.1
    (row_is _ _ _ _ _ _ _ _ _ _ (near_ready _ _ _ _ _ _ _ _ _ _ c.gather_segments-count.ensures c.segments_at.ensures p.edges p.size) _ i.1
    _ _ along c.is_interior.ensures)
    c.enter_grid_row.ensures (turn_size _ _)

pub loop-i-preserved : goal.loop-i-preserved
loop-i-preserved c = (omega (arith, c.loop-i-test.true), turned (goal.at.loop-i-preserved c).After-enter_grid_row (along-u (goal.at.loop-i-preserved c).After-grid_line))

-- after the last row, and if there was none
pub returns-2 : goal.returns-2
returns-2 c =
    let s = (goal.at.returns-2 c).After-segments_at in
    let end : c.loop-i.i + 1 ≡ last s + 1 = omega arith in
    face_end _ _ _ _ _ _ _ _ (face_in c.args.face) _ _ _ c.requires _ _ (ap (by_axis c.args.skip) (across_is s)) c.gather_segments-count.ensures _ _ _ _ _ (c.loop-i.i + 1)
    c.segments_at.ensures (last_is s) refl refl c.face_line-at.ensures end (turned (goal.at.returns-2 c).After-enter_grid_row (along-u (goal.at.returns-2 c).After-grid_line))

pub returns : goal.returns
returns c =
    let s = (goal.at.returns c).After-segments_at in
    let end : c.loop-i.i ≡ last s + 1 = omega (arith, c.loop-i-test.false, c.loop-i.invariant.0) in
    face_end _ _ _ _ _ _ _ _ (face_in c.args.face) _ _ _ c.requires _ _ (ap (by_axis c.args.skip) (across_is s)) c.gather_segments-count.ensures _ _ _ _ _ c.loop-i.i
    c.segments_at.ensures (last_is s) refl refl c.face_line-at.ensures end c.loop-i.invariant.1
