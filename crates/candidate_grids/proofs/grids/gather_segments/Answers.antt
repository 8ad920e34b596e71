use Prim.Native.Nat.{ℕ, ◌+◌, ◌*◌}
use mathlib.Core.Path.{◌≡◌, ap, ◌∙◌}
use lib.ListN.{get_or}
use Rattle.geometry.specs.Boxes.{face_of}
use Rattle.box_faces.specs.Faces.{has_bit}
use Rattle.candidate_grids.proofs.Gathering.{gather_start, gather_pass, gather_one}
use Rattle.candidate_pool.specs.Offsets.{open_edges_at}
use Rattle.candidate_grids.proofs.grids.gather_segments.Goals.{then-contains, else-contains}
use Rattle.candidate_grids.proofs.grids.gather_segments.Goals as goal

pub loop-i-init : goal.loop-i-init
loop-i-init c = gather_start _ _ _ _ _ _

pub loop-i-preserved : goal.loop-i-preserved
loop-i-preserved c =
    let bit : c.contains.result
    ≡ has_bit (get_or c.loop-i.w (open_edges_at c.args.room.n c.args.room.nf + 3 * c.loop-i.i + 2) 0) (face_of c.args.face) = let l = c.loop-i in
    c.contains.ensures ∙ ap (λ (x : ℕ). has_bit (get_or l.w (x + 3 * l.i + 2) 0) (face_of c.args.face)) c.open_edges_at-edges.ensures in
    let t = c in
    let l = t.loop-i in
    elim c.if-contains.branch [
      | then-contains w ↦ rw (w.w-is, w.count-is)
          (gather_one _ _ _ _ _ _ c.requires l.w l.count l.i l.invariant t.loop-i-test.true _ bit w.if-contains.true _
          (rw (t.segments_at-segments.ensures, t.open_edges_at-edges.ensures) at w.gather_segment.ensures))
      | else-contains w ↦ rw (w.w-is, w.count-is)
          (gather_pass _ _ _ _ _ _ c.requires l.w l.count l.i l.invariant t.loop-i-test.true _ bit w.if-contains.false)
    ]
