use Prim.Native.Nat.{ℕ}
use mathlib.Core.Path.{sym, subst}
use Rattle.geometry.proofs.Faces.{face_at}
use Rattle.candidate_grids.specs.Steps.{FaceReady, FaceEntered}
use Rattle.candidate_grids.proofs.Gridding.{gridding_start, gridding_ready, gridding_turn, gridding_end}
use Rattle.candidate_grids.proofs.grids.enter_grids.Goals as goal

pub loop-face-init : goal.loop-face-init
loop-face-init c = gridding_start _ _ _ _ _ _ _ _ c.requires

pub enter_face_grid-requires : goal.enter_face_grid-requires
enter_face_grid-requires c =
    let a = c.args in
    let g = a.cuts.grid in
    subst (λ (f : ℕ). FaceReady g.extents g.eps g.resolution a.skip a.room.n a.room.nf a.k f c.loop-face.w) (sym (face_at c.loop-face.face-index _ c.loop-face-test.true))
    (gridding_ready _ _ _ _ _ _ _ _ c.requires _ _ c.loop-face.invariant c.loop-face-test.true)

pub loop-face-preserved : goal.loop-face-preserved
loop-face-preserved c =
    let a = c.args in
    let g = a.cuts.grid in
    gridding_turn _ _ _ _ _ _ _ _ c.requires _ _ c.loop-face.invariant c.loop-face-test.true _
    (subst (λ (f : ℕ). FaceEntered g.extents g.eps g.resolution a.skip a.room.n a.room.nf a.k f c.loop-face.w c.enter_face_grid.new.w)
    (face_at c.loop-face.face-index _ c.loop-face-test.true) c.enter_face_grid.ensures)

pub returns : goal.returns
returns c = gridding_end _ _ _ _ _ _ _ _ c.requires _ _ c.loop-face.invariant c.loop-face-test.false
