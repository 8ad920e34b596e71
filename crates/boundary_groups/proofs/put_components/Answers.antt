use mathlib.Core.Path.{refl}
use native.Mathlib.Omega.{arith}
use Rattle.boundary_groups.proofs.Walks.{putting_turn, putting_end, flag}
use Rattle.boundary_groups.proofs.put_components.Goals as goal

pub loop-i-preserved : goal.loop-i-preserved
loop-i-preserved c =
    let l = c.loop-i in
    let s = c.args in
    let ring = c.is_ring-ring in
    rw c.put_record.ensures (putting_turn s.ends.now s.degrees.now s.records.now l.counts l.c l.i (omega arith) l.invariant (omega arith) _ c.run_end-e.ensures
    ring.result ring.ensures _ _ refl (flag ring.result))

pub returns : goal.returns
returns c = putting_end _ _ _ _ _ _ (omega arith) c.loop-i.invariant
