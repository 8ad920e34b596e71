use mathlib.Core.Path.{refl}
use lib.Dec.{T_not}
use Rattle.root.specs.Root.{rootable}
use Rattle.leaf_exports.proofs.Tests.{passes, first_fails, second_fails}
use Rattle.leaf_exports.proofs.export_sqrt.Goals as goal

pub sqrt-requires : goal.sqrt-requires
sqrt-requires c = passes c.args.x c.if-x.true c.if-x-infinity.true

pub returns-then-x-infinity : goal.returns-then-x-infinity
returns-then-x-infinity c =
    let x = c.args.x in
    record { found = λ p. c.sqrt.ensures; other = λ p. absurd (T_not (rootable x) p (passes x c.if-x.true c.if-x-infinity.true)) }

pub returns-else-x-infinity : goal.returns-else-x-infinity
returns-else-x-infinity c = record { found = λ p. absurd (second_fails c.args.x c.if-x-infinity.false p); other = λ p. refl }

pub returns-else-x : goal.returns-else-x
returns-else-x c = record { found = λ p. absurd (first_fails c.args.x c.if-x.false p); other = λ p. refl }
