use native.Mathlib.Omega.{arith}
use native.Mathlib.Nat.{not-suc-le-zero}
use lib.ListN.{length}
use Rattle.components.proofs.Forest.{kept_refl, flatten_kept, flatten_more}
use Rattle.components.proofs.flatten.Goals as goal

pub loop-i-init : goal.loop-i-init
loop-i-init c = (kept_refl _ _ c.requires, λ j h. absurd (not-suc-le-zero h))

pub loop-i-preserved : goal.loop-i-preserved
loop-i-preserved c =
    let l = c.loop-i in
    let n = length c.args.links.now in
    let e = l.invariant.0.long in (
      flatten_kept _ l.links n l.i (omega arith) (omega arith) l.invariant.0 l.invariant.1,
      flatten_more _ l.links n l.i (omega arith) (omega arith) l.invariant.0 l.invariant.1,
    )

pub returns : goal.returns
returns c = let l = c.loop-i in record { kept = l.invariant.0; flat = λ i h. l.invariant.1 i (omega arith) }
