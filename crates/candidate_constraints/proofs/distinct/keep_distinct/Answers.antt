use Rattle.candidate_constraints.proofs.Once.{keeping_turn, keeping_end}
use Rattle.candidate_constraints.proofs.distinct.keep_distinct.Goals as goal

pub loop-i-preserved : goal.loop-i-preserved
loop-i-preserved c =
    let s = c in
    let l = c.loop-i in (
      keeping_turn s.args.room.n s.args.room.nf s.args.c s.args.total s.args.w.now s.requires.roomy s.requires.c_bound.0 s.requires.c_bound.1 l.w l.t l.i l.invariant.0
          c.pairs_at-pairs.result c.constraints_at-at.result c.run_end-end.result
          l.invariant.1 l.invariant.2 c.run_end-end.ensures,
      l.invariant.1,
      l.invariant.2,
    )

pub returns : goal.returns
returns c =
    let s = c in
    let l = c.loop-i in
    keeping_end s.args.room.n s.args.room.nf s.args.c s.args.total s.args.w.now s.requires.roomy s.requires.c_bound.0 s.requires.c_bound.1 l.w l.t l.i l.invariant.0
    c.loop-i-test.false
