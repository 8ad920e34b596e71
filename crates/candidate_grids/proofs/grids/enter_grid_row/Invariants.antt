use Prim.Native.Nat.{◌+◌, ◌≤◌}
use mathlib.Core.List.{flat_map}
use Rattle.lists.specs.Lists.{up_to}
use Rattle.geometry.specs.Boxes.{face_of}
use Rattle.box_faces.specs.Faces.{v_axis}
use Rattle.candidate_grids.specs.Steps.{skips_near, row_cell, parts_of, PointsEntered}
use Rattle.candidate_grids.proofs.grids.enter_grid_row.Given as goal

-- `candidate_grids::grids::enter_grid_row` meets its contract. The loop's invariant: the points before j were entered. Assumes nothing.
abbrev pub invariant-loop-j : goal.invariant-loop-j
invariant-loop-j l =
    let f = face_of l.face in
    (l.j ≤ l.last + 1)
    × PointsEntered l.cuts.grid.eps l.room.n (flat_map (row_cell (skips_near l.initial.w l.near) l.cuts.grid.extents f l.row (parts_of l.cuts (v_axis f))) (up_to l.j)) l.j l.initial.w l.w
