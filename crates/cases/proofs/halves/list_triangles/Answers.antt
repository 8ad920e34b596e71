use Prim.Native.Nat.{ℕ}
use mathlib.Core.Path.{◌∙◌}
use lib.ListN.{length-set}
use Rattle.cases.proofs.Turned.{turned_more, turned_all}
use Rattle.cases.proofs.halves.list_triangles.Goals as goal

pub loop-i-preserved : goal.loop-i-preserved
loop-i-preserved c = (
  length-set {A = ℕ} c.loop-i.list c.loop-i.i c.cap_word.result ∙ c.loop-i.invariant.0,
  turned_more _ c.loop-i.list c.loop-i.i c.loop-i.invariant.0 c.loop-i.invariant.1 c.cap_word.result c.loop-i-test.true c.cap_word.ensures,
)

pub returns : goal.returns
returns c = turned_all _ _ _ c.loop-i.invariant.0 c.loop-i.invariant.1 c.loop-i-test.false
