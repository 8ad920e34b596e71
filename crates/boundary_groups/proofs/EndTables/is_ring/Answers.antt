use Rattle.std.proofs.Common.{rules, tests, ◌*◌, ◌-◌}
use Prim.Native.Nat.{ℕ}
use mathlib.Core.Path.{refl, ◌∙◌}
use Rattle.std.proofs.lemmas.Iterator.{YieldsList-from_range}
use Rattle.std.proofs.lemmas.Iterator.Search.{all_from_yields_List}
use Rattle.records.specs.Buffer.{record_of}
use Rattle.boundary_groups.specs.Staged.{turns_of}
use Rattle.boundary_groups.proofs.Walks.{records_by_places}
use Rattle.boundary_groups.proofs.EndTables.is_ring.Goals as goal

pub returns : goal.returns
returns c =
    let a = c.args in
    let t = a.self.now in
    all_from_yields_List (λ (j : ℕ). turns_of t.ends.now t.degrees.now (record_of a.records.now (2 * j))) _ _ c.all.result c.all.ensures.ran
    (YieldsList-from_range a.i a.e (a.e - a.i) refl refl) (λ x b q k. search (rules, tests))
    ∙ records_by_places (turns_of t.ends.now t.degrees.now) a.records.now (a.e - a.i) a.i
