use Prim.Native.Nat.{ℕ, ◌+◌, ◌*◌}
use native.Mathlib.Omega.{arith}
use mathlib.Core.Path.{sym, subst}
use lib.ListN.{get_or, length}
use Rattle.components.specs.Table.{ItemLabels}
use Rattle.components.specs.Forest.{LabelEntered}
use Rattle.components.proofs.Forest.{found_rooted}
use Rattle.components.proofs.Turns.{swept_at, swept_kept, swept_seen, swept_turn}
use Rattle.components.proofs.join_item.Goals.{After-find-r}
use Rattle.components.proofs.join_item.Goals as goal

item_labels : (c : After-find-r) → ItemLabels c.args.labels.now (length c.find-r.new.links) c.args.k (length c.args.firsts.now)
item_labels c = subst (λ (n : ℕ). ItemLabels c.args.labels.now n c.args.k (length c.args.firsts.now)) (sym c.find-r.ensures.kept.long) c.requires.item_labels

pub loop-j-init : goal.loop-j-init
loop-j-init c =
    let s = c.args in
    let f = c.find-r in
    let t = s.i * s.k in
    rw f.ensures.kept.long (
      swept_at s.labels.now _ s.k _ f.new.links s.firsts.now t (t + 0) (omega arith)
          (swept_kept s.labels.now _ s.k _ c.requires.item_labels s.links.now f.new.links s.firsts.now t c.requires.swept f.ensures.kept),
      found_rooted _ _ _ _ _ f.ensures,
    )

pub enter-r-requires-clause-by_index : goal.enter-r-requires-clause-by_index
enter-r-requires-clause-by_index c =
    let s = c.args in
    let l = c.loop-j in
    let e = c.find-r.ensures.kept.long in
    rw l.invariant.0.links
    (swept_seen s.labels.now _ s.k _ (item_labels (goal.at.enter-r-requires-clause-by_index c).After-find-r) l.links l.firsts s.i l.j l.invariant.0 (omega arith) (omega arith))

pub loop-j-preserved : goal.loop-j-preserved
loop-j-preserved c =
    let s = c.args in
    let l = c.loop-j in
    let n = length c.find-r.new.links in
    let e = c.find-r.ensures.kept.long in
    let r = c.enter-r in
    let entered = subst (λ (x : ℕ). LabelEntered l.links r.new.links x (get_or l.firsts (get_or s.labels.now (s.i * s.k + l.j) 0) 0) r.new.first s.i r.result)
    l.invariant.0.links r.ensures in (
      swept_turn s.labels.now n s.k _ (item_labels (goal.at.loop-j-preserved c).After-find-r) l.links l.firsts s.i l.j l.invariant.0 (omega arith) (omega arith)
          r.new.links r.new.first r.result entered,
      entered.rooted,
    )
