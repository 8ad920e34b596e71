use mathlib.Core.Path.{refl, sym, ◌∙◌}
use native.Mathlib.Omega.{arith}
use lib.ListN.{length}
use Rattle.components.specs.Joined.{same}
use Rattle.components.proofs.Forest.{kept_refl, halve_at}
use Rattle.components.proofs.find.Goals as goal

pub loop-p-init : goal.loop-p-init
loop-p-init c = (omega arith, refl, kept_refl _ _ c.requires.forest, same)

pub loop-p-preserved : goal.loop-p-preserved
loop-p-preserved c =
    let l = c.loop-p in
    let a = l.invariant.2.forest l.r (omega arith) in
    let b = l.invariant.2.forest l.p (omega arith) in
    let s = c.args in
    let h = halve_at _ l.links (length s.links.now) _ l.r l.p (omega arith) (omega arith) l.invariant.1 l.invariant.2 l.invariant.3 in
    (omega arith, refl, h.0, h.1)

pub returns : goal.returns
returns c = let l = c.loop-p in record { kept = l.invariant.2; small = l.invariant.0; root = sym l.invariant.1 ∙ c.loop-p-test.false; tree = l.invariant.3 }
