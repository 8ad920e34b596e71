use Prim.Native.Nat.{ℕ, ◌+◌, ◌≤◌, ◌<◌}
use native.Mathlib.Omega.{arith}
use mathlib.Core.Path.{◌≡◌, refl, sym, ap, subst, ◌∙◌}
use mathlib.Core.Bool.{Bool, ◌&&◌}
use mathlib.Core.List.{flat_map}
use borrow.Author.Rules.{rules}
use Rattle.lists.specs.Lists.{up_to}
use Rattle.geometry.specs.Boxes.{face_of}
use Rattle.geometry.proofs.Faces.{axis_in}
use Rattle.box_faces.specs.Faces.{v_axis}
use Rattle.candidate_grids.specs.Steps.{is_inner, parts_of, line_of, skips_near, row_cell, PointsEntered}
use Rattle.candidate_grids.proofs.Bounded.{point_in}
use Rattle.candidate_grids.proofs.Entries.{entered_none, entered_more, row_line_in, row_point_ready, row_cell_lem}
use Rattle.candidate_grids.proofs.grids.enter_grid_row.Goals.{After-enter_grid_point, then-row, else-row}
use Rattle.candidate_grids.proofs.grids.enter_grid_row.Goals as goal

pub loop-j-init : goal.loop-j-init
loop-j-init c = (omega arith, entered_none _ _ _ _ _ c.requires.holds)

pub grid_line-v-requires : goal.grid_line-v-requires
grid_line-v-requires c = omega (arith, c.along-last.ensures.bound, c.loop-j-test.true)

-- the three bounds are looked for, so that this does not say which goes where
pub enter_grid_point-requires : goal.enter_grid_point-requires
enter_grid_point-requires c =
    let v_low : v_axis (face_of c.args.face) < 3 = subst (λ (a : ℕ). a < 3) c.uv_axes-axis.ensures.1 (axis_in c.uv_axes-axis.result.1) in
    let last_is : c.along-last.result ≡ parts_of c.args.cuts (v_axis (face_of c.args.face)) = c.along-last.ensures.value ∙ ap (parts_of c.args.cuts) c.uv_axes-axis.ensures.1 in
    let along-v : c.grid_line-v.result ≡ line_of c.args.cuts (v_axis (face_of c.args.face)) c.loop-j.j
    = c.grid_line-v.ensures ∙ ap (λ (a : ℕ). line_of c.args.cuts a c.loop-j.j) c.uv_axes-axis.ensures.1 in
    let most : c.loop-j.j ≤ parts_of c.args.cuts (v_axis (face_of c.args.face)) = omega (arith, c.loop-j-test.true, last_is) in
    let p = c.requires in
    let a = p.at_in in
    let b = p.u_in in
    let d = row_line_in _ _ _ _ _ _ _ _ _ p _ c.loop-j.invariant.1 most _ v_low along-v in
    row_point_ready _ _ _ _ _ _ _ _ _ p _ c.loop-j.invariant.1 most _
    (point_in _ _ _ _ _ c.point_on_face-p.ensures (search rules) (search rules) (search rules))

-- the points up to j were entered
turned : (c : After-enter_grid_point) → PointsEntered c.args.cuts.grid.eps c.args.room.n
    (flat_map (row_cell (skips_near c.args.w.now c.args.near) c.args.cuts.grid.extents (face_of c.args.face) c.args.row (parts_of c.args.cuts (v_axis (face_of c.args.face))))
    (up_to (c.loop-j.j + 1))) (c.loop-j.j + 1) c.args.w.now c.enter_grid_point.new.w
turned c =
    let last_is : c.along-last.result ≡ parts_of c.args.cuts (v_axis (face_of c.args.face)) = c.along-last.ensures.value ∙ ap (parts_of c.args.cuts) c.uv_axes-axis.ensures.1 in
    let along-v : c.grid_line-v.result ≡ line_of c.args.cuts (v_axis (face_of c.args.face)) c.loop-j.j
    = c.grid_line-v.ensures ∙ ap (λ (a : ℕ). line_of c.args.cuts a c.loop-j.j) c.uv_axes-axis.ensures.1 in
    let most : c.loop-j.j ≤ parts_of c.args.cuts (v_axis (face_of c.args.face)) = omega (arith, c.loop-j-test.true, last_is) in
    let inner-is : c.if-row.inner ≡ (c.args.row.inner && is_inner c.loop-j.j (parts_of c.args.cuts (v_axis (face_of c.args.face))))
    = elim c.if-row.branch [
      | then-row w ↦ w.inner-is ∙ w.is_interior-inner.ensures ∙ ap (is_inner c.loop-j.j) last_is
          ∙ sym (ap (λ (b : Bool). b && is_inner c.loop-j.j (parts_of c.args.cuts (v_axis (face_of c.args.face)))) w.if-row.true)
      | else-row w ↦ w.inner-is ∙ w.if-row.false ∙ sym (ap (λ (b : Bool). b && is_inner c.loop-j.j (parts_of c.args.cuts (v_axis (face_of c.args.face)))) w.if-row.false)
    ] in
    entered_more _ _ _ _ _ _ _ _ _ _ _ c.loop-j.invariant.1
    (row_cell_lem _ _ _ _ _ _ _ _ _ c.requires _ c.loop-j.invariant.1 most _ _ _ along-v c.point_on_face-p.ensures inner-is)
    c.enter_grid_point.ensures refl

pub loop-j-preserved : goal.loop-j-preserved
loop-j-preserved c = (omega (arith, c.loop-j-test.true), turned (goal.at.loop-j-preserved c).After-enter_grid_point)

-- after the last point, and if there was none
pub returns-after-row : goal.returns-after-row
returns-after-row c =
    let last_is : c.along-last.result ≡ parts_of c.args.cuts (v_axis (face_of c.args.face)) = c.along-last.ensures.value ∙ ap (parts_of c.args.cuts) c.uv_axes-axis.ensures.1 in
    let end : c.loop-j.j + 1 ≡ parts_of c.args.cuts (v_axis (face_of c.args.face)) + 1 = omega (arith, last_is) in
    subst (λ (x : ℕ). PointsEntered c.args.cuts.grid.eps c.args.room.n
    (flat_map (row_cell (skips_near c.args.w.now c.args.near) c.args.cuts.grid.extents (face_of c.args.face) c.args.row (parts_of c.args.cuts (v_axis (face_of c.args.face)))) (up_to x)) x
    c.args.w.now c.enter_grid_point.new.w) end (turned (goal.at.returns-after-row c).After-enter_grid_point)

pub returns : goal.returns
returns c =
    let last_is : c.along-last.result ≡ parts_of c.args.cuts (v_axis (face_of c.args.face)) = c.along-last.ensures.value ∙ ap (parts_of c.args.cuts) c.uv_axes-axis.ensures.1 in
    let end : c.loop-j.j ≡ parts_of c.args.cuts (v_axis (face_of c.args.face)) + 1 = omega (arith, c.loop-j-test.false, c.loop-j.invariant.0, last_is) in
    subst (λ (x : ℕ). PointsEntered c.args.cuts.grid.eps c.args.room.n
    (flat_map (row_cell (skips_near c.args.w.now c.args.near) c.args.cuts.grid.extents (face_of c.args.face) c.args.row (parts_of c.args.cuts (v_axis (face_of c.args.face)))) (up_to x)) x
    c.args.w.now c.loop-j.w) end c.loop-j.invariant.1
