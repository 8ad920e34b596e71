use Rattle.std.proofs.Common.{rules, tests, arith, ◌/◌}
use Prim.Native.Nat.{ℕ}
use mathlib.Core.Path.{refl, sym, ap, ◌∙◌}
use mathlib.Core.List.{List}
use lib.ListN.{length}
use Rattle.std.proofs.lemmas.Iterator.{YieldsList-from_range}
use Rattle.std.proofs.lemmas.Iterator.Search.{find_from_yields_List}
use Rattle.lists.specs.Lists.{first}
use Rattle.cases.specs.Comparing.{stands_at}
use Rattle.cases.proofs.Rows.{up_range, same_found}
use Rattle.cases.proofs.listed.place_of.Goals as goal

pub returns : goal.returns
returns c =
    let n = length c.args.candidates.now / 5 in
    let test = stands_at c.args.candidates.now c.args.point in
    sym (same_found c.find.result)
    ∙ find_from_yields_List test _ _ c.find.result c.find.ensures.ran (YieldsList-from_range 0 n n refl (omega arith)) (λ x b q k. search (rules, tests))
    ∙ ap (λ (l : List ℕ). first test l) (up_range 0 n)
