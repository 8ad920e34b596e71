use Prim.Native.Nat.{◌+◌, ◌*◌, ◌≤◌}
use mathlib.Core.List.{flat_map}
use Rattle.lists.specs.Lists.{up_to}
use Rattle.geometry.specs.Boxes.{face_of}
use Rattle.box_faces.specs.Faces.{v_axis}
use Rattle.candidate_grids.specs.Steps.{skips_near, row_cell, row_at, parts_of, PointsEntered}
use Rattle.candidate_grids.proofs.grids.enter_face_grid.Given as goal

-- `candidate_grids::grids::enter_face_grid` meets its contract. The loop's invariant: the rows before i were entered. Assumes nothing.
abbrev pub invariant-loop-i : goal.invariant-loop-i
invariant-loop-i l =
    let box = l.cuts.grid.extents in
    let f = face_of l.face in
    let last-v = parts_of l.cuts (v_axis f) in
    (l.i ≤ l.last + 1)
    × PointsEntered l.cuts.grid.eps l.room.n
    (flat_map (λ x. flat_map (row_cell (skips_near l.initial.w l.near) box f (row_at box f l.at l.last x) last-v) (up_to (last-v + 1))) (up_to l.i))
    (l.i * (last-v + 1)) l.initial.w l.w
