use Rattle.mesh_compact.proofs.Compacting.{none_passed, none_small, labels_low, room, compacted_is}
use Rattle.components.proofs.Lent.{labels_read, table_left}
use Rattle.components.specs.Table.{ComponentTable}
use Rattle.lists.specs.Regions.{view}
use lib.ListN.{take, drop}
use native.Mathlib.Omega.{arith}
use Prim.Native.Nat.{◌+◌, ◌*◌, ◌-◌}
use mathlib.Core.List.{◌++◌}
use mathlib.Core.Path.{◌≡◌}
use mathlib.Core.Logic.{⊎_elim}
use Rattle.mesh_compact.proofs.compact.remove_small_disconnected_components.Goals.{After-split_at_mut-front, After-components}
use Rattle.mesh_compact.proofs.compact.remove_small_disconnected_components.Goals as goal

module _ (c : After-split_at_mut-front) where
  read : take (c.args.facets + 3 * c.args.k - c.args.facets) (drop c.args.facets c.split_at_mut-front.result.0.now) ≡ view c.args.m.now c.args.facets (c.args.k * 3)
  read =
      let a = c.args in
      labels_read a.m.now a.facets a.k 3 a.n a.at (omega arith) (omega (arith, c.requires.facets_in)) (omega (arith, c.requires.all_in))
      (labels_low a.kept a.n a.facets a.k a.at a.least a.m.now c.requires) c.split_at_mut-front.result.0.now (3 * a.k) c.split_at_mut-front.ensures.front (omega arith)

found : (c : After-components) → ComponentTable (view c.args.m.now c.args.facets (c.args.k * 3)) c.args.k 3 c.args.n c.args.at c.args.m.now
    (c.split_at_mut-front.result.0.now ++ c.components.new.table)
found c =
    let a = c.args in
    let low = labels_low a.kept a.n a.facets a.k a.at a.least a.m.now c.requires in
    let e = labels_read a.m.now a.facets a.k 3 a.n a.at (omega arith) (omega (arith, c.requires.facets_in)) (omega (arith, c.requires.all_in)) low
    c.split_at_mut-front.result.0.now (3 * a.k) c.split_at_mut-front.ensures.front (omega arith) in
    table_left a.m.now a.facets a.k 3 a.n a.at (omega arith) (omega (arith, c.requires.facets_in)) (omega (arith, c.requires.all_in)) low _ e _ _ _
    c.split_at_mut-front.ensures.front c.split_at_mut-front.ensures.back c.components.ensures

pub renumber-used-requires : goal.renumber-used-requires
renumber-used-requires c =
    let a = c.args in
    room a.kept a.n a.facets a.k a.at a.least a.m.now c.requires _ (found (goal.at.renumber-used-requires c).After-components)

pub returns-then-k-eq0 : goal.returns-then-k-eq0
returns-then-k-eq0 c =
    let a = c.args in
    ⊎_elim (none_passed a.kept a.n a.facets a.k a.at a.least a.m.now c.requires) (λ h. none_small a.kept a.n a.facets a.k a.at a.least a.m.now c.requires h.1) c.then-k-eq0.either

pub returns : goal.returns
returns c =
    let a = c.args in
    compacted_is a.kept a.n a.facets a.k a.at a.least a.m.now c.requires _ (found (goal.at.returns c).After-components) c.if-k-eq0.false
    (omega (arith, c.if-least-le1.false)) c.renumber-used.result c.renumber-used.new.m c.renumber-used.auto.m c.renumber-used.ensures
