use Rattle.std.proofs.Common.{rules, tests}
use mathlib.Core.Path.{◌∙◌}
use lib.Ieee.{Float}
use Rattle.std.proofs.lemmas.Iterator.{YieldsList-from_slice, YieldsList-from_zip}
use Rattle.std.proofs.lemmas.Iterator.Search.{all_from_yields_List}
use Rattle.cases.specs.Comparing.{same_bits}
use Rattle.cases.proofs.Rows.{zip_starts}
use Rattle.cases.proofs.bits.begins_with.Goals as goal

pub returns-then-front-list : goal.returns-then-front-list
returns-then-front-list c =
    let front = c.args.front.now in
    let list = c.args.list.now in
    all_from_yields_List (λ (p : Float × Float). same_bits p.0 p.1) c.all.new.self _ c.all.result c.all.ensures.ran
    (YieldsList-from_zip (YieldsList-from_slice front cc) (YieldsList-from_slice list cc)) (λ x b q k. search (rules, tests))
    ∙ zip_starts same_bits list front c.if-front-list.true
