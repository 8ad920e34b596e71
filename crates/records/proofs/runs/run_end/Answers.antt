use Prim.Native.Nat.{ℕ}
use mathlib.Core.Path.{◌≡◌, subst}
use Rattle.records.specs.Runs.{Run}
use Rattle.records.proofs.ByRuns.{run_cut}
use native.Mathlib.Omega.{arith}
use Rattle.records.proofs.runs.run_end.Goals as goal

pub returns-then-m-at : goal.returns-then-m-at
returns-then-m-at c = run_cut c.args.m.now c.args.at c.args.n c.args.i c.loop-e.e c.loop-e.invariant (λ h. c.if-m-at.true)

pub returns : goal.returns
returns c =
    let a = c.args in
    let e : c.loop-e.e ≡ a.n = omega arith in
    subst (λ (k : ℕ). Run a.m.now a.at a.n a.i k) e (run_cut a.m.now a.at a.n a.i c.loop-e.e c.loop-e.invariant (λ h z. omega arith))
