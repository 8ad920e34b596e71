use Rattle.std.proofs.Common.{rules, tests, arith, ◌/◌}
use Prim.Native.Nat.{ℕ}
use mathlib.Core.Path.{refl, ap, ◌∙◌}
use mathlib.Core.List.{List}
use lib.ListN.{length}
use Rattle.std.proofs.lemmas.Iterator.{YieldsList-from_range}
use Rattle.std.proofs.lemmas.Iterator.Search.{all_from_yields_List}
use Rattle.lists.specs.Lists.{every}
use Rattle.cases.specs.Comparing.{free}
use Rattle.cases.proofs.Rows.{up_range}
use Rattle.cases.proofs.listed.is_alone.Goals as goal

pub returns : goal.returns
returns c =
    let n = length c.args.candidates.now / 5 in
    let test = free c.args.candidates.now c.args.point c.args.at in
    all_from_yields_List test _ _ c.all.result c.all.ensures.ran (YieldsList-from_range 0 n n refl (omega arith)) (λ x b q k. search (rules, tests))
    ∙ ap (λ (l : List ℕ). every test l) (up_range 0 n)
