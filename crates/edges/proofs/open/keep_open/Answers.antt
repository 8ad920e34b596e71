use Rattle.edges.proofs.Running.{keeping_start, keeping_turn, keeping_end}
use native.Mathlib.Omega.{arith}
use Rattle.edges.proofs.open.keep_open.Goals as goal

pub loop-i-init : goal.loop-i-init
loop-i-init c = let s = c in keeping_start s.args.w.now s.args.n s.requires.n_in_bounds

pub loop-i-preserved : goal.loop-i-preserved
loop-i-preserved c =
    let s = c in
    let l = c.loop-i in
    rw c.move_record.ensures (keeping_turn s.args.w.now s.args.n l.w l.k l.i l.invariant (omega arith) c.run_end-end.result c.run_end-end.ensures)

pub returns : goal.returns
returns c = let s = c in let l = c.loop-i in keeping_end s.args.w.now s.args.n l.w l.k l.i l.invariant (omega arith) s.requires.ascending
