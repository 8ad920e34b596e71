use Rattle.candidate_constraints.proofs.Listing.{faced_start, faced_shown, faced_roomy, faced_held, faced_few, faced_turn, faced_end}
use Prim.Native.Nat.{ℕ}
use mathlib.Core.Path.{subst}
use Rattle.geometry.proofs.Faces.{face_at}
use Rattle.candidate_constraints.specs.Steps.{FaceListed}
use Rattle.candidate_constraints.proofs.Showing.{holds_shown}
use Rattle.candidate_constraints.proofs.constraints.all_constraints.Goals as goal

pub loop-face-init : goal.loop-face-init
loop-face-init c = faced_start c.args.clip.extents c.args.clip.eps c.args.room.n c.args.room.nf c.args.k c.args.w.now

pub face_constraints-total-requires : goal.face_constraints-total-requires
face_constraints-total-requires c =
    let s = c in
    let a = s.args in
    let l = c.loop-face in record {
      shown = faced_shown a.clip.extents a.clip.eps a.room.n a.room.nf a.k a.w.now
          (holds_shown a.clip.eps a.room.n a.w.now s.requires.holds) s.requires.edges_held s.requires.n_bound.0 s.args.room.small.1
          s.requires.n_bound.2 l.w l.total l.face-index l.invariant;
      roomy = faced_roomy a.clip.extents a.clip.eps a.room.n a.room.nf a.k a.w.now
          (holds_shown a.clip.eps a.room.n a.w.now s.requires.holds) s.requires.edges_held s.requires.n_bound.0 s.args.room.small.1 s.requires.n_bound.2 l.w l.total l.face-index l.invariant;
      edges_held = faced_held a.clip.extents a.clip.eps a.room.n a.room.nf a.k a.w.now
          (holds_shown a.clip.eps a.room.n a.w.now s.requires.holds) s.requires.edges_held s.requires.n_bound.0 s.args.room.small.1
          s.requires.n_bound.2 l.w l.total l.face-index l.invariant;
      fits = faced_few a.clip.extents a.clip.eps a.room.n a.room.nf a.k a.w.now
          (holds_shown a.clip.eps a.room.n a.w.now s.requires.holds) s.requires.edges_held s.requires.n_bound.0 s.args.room.small.1 s.requires.n_bound.2 l.w l.total l.face-index l.invariant
          c.loop-face-test.true;
    }

pub loop-face-preserved : goal.loop-face-preserved
loop-face-preserved c =
    let s = c in
    let a = s.args in
    let l = c.loop-face in
    let face-constraints' = c.face_constraints-total in
    faced_turn a.clip.extents a.clip.eps a.room.n a.room.nf a.k a.w.now (holds_shown a.clip.eps a.room.n a.w.now s.requires.holds) s.requires.edges_held s.requires.n_bound.0 s.args.room.small.1
    s.requires.n_bound.2 l.w l.total l.face-index l.invariant face-constraints'.new.w face-constraints'.result c.loop-face-test.true
    (subst (λ (f : ℕ). FaceListed a.clip.extents a.clip.eps a.room.n a.room.nf a.k f l.total face-constraints'.result l.w face-constraints'.new.w)
    (face_at l.face-index _ c.loop-face-test.true) face-constraints'.ensures)

pub shape_of-w : goal.shape_of-w
shape_of-w c = c.loop-face.invariant.kept.long

pub returns : goal.returns
returns c =
    let s = c in
    let a = s.args in
    faced_end a.clip.extents a.clip.eps a.room.n a.room.nf a.k a.w.now (holds_shown a.clip.eps a.room.n a.w.now s.requires.holds) s.requires.edges_held s.requires.n_bound.0 s.args.room.small.1
    s.requires.n_bound.2 c.loop-face.w c.loop-face.total c.loop-face.face-index c.loop-face.invariant c.loop-face-test.false
