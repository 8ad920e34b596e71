use Rattle.std.proofs.Common.{rules, tests}
use Prim.Native.Nat.{ℕ}
use mathlib.Core.Path.{◌∙◌}
use Rattle.std.proofs.lemmas.Iterator.{YieldsList-from_slice, YieldsList-from_zip}
use Rattle.std.proofs.lemmas.Iterator.Search.{all_from_yields_List}
use Rattle.cases.specs.Halves.{half_point, is_point, has_facets}
use Rattle.cases.proofs.Rows.{zip_every}
use Rattle.cases.proofs.halves.has_facets.Goals as goal

pub returns : goal.returns
unfolding has_facets
returns c =
    let facets = c.args.facets.now in
    let stated = c.args.stated.now in
    let test = (λ (v : ℕ) (p : ℕ). is_point c.args.vertices.now v (half_point p)) in
    all_from_yields_List (λ (p : ℕ × ℕ). test p.0 p.1) c.all.new.self _ c.all.result c.all.ensures.ran
    (YieldsList-from_zip (YieldsList-from_slice facets cc) (YieldsList-from_slice stated cc)) (λ x b q k. search (rules, tests))
    ∙ zip_every test 0 0 36 facets stated c.told-facets c.told-stated
