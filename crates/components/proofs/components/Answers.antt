use Prim.Native.Nat.{ℕ, ◌+◌, ◌*◌, ◌/◌}
use native.Mathlib.Omega.{arith}
use mathlib.Core.Path.{◌≡◌, refl, sym, ap, subst, subst₂, ◌∙◌}
use mathlib.Core.List.{List}
use lib.ListN.{get_or, length, drop, get_or-replicate}
use lib.Seq.{drop-drop, length-take-le}
use Rattle.lists.proofs.Places.{at_up}
use Rattle.components.specs.Table.{ItemLabels}
use Rattle.components.specs.Forest.{Flattened, SizesTallied, Swept}
use Rattle.components.proofs.Turns.{swept_start, swept_number, swept_first}
use Rattle.components.proofs.Lent.{table_made}
use Rattle.components.proofs.components.Goals.{After-own}
use Rattle.components.proofs.components.Goals as goal

abbrev n : After-own → ℕ
n c = length c.args.labels.now / c.args.k

links-long : (c : After-own) → length c.own.new.links ≡ n c
links-long c = c.own.auto.links ∙ c.split_at_mut-links.ensures.front_len

firsts-long : (c : After-own) → length c.zero-2.new.w ≡ c.args.m
firsts-long c =
    let a = c.split_at_mut-links.ensures.back_len in
    let b = c.split_at_mut-sizes.ensures.back_len in
    let r = c.requires.room in
    c.zero-2.auto.w ∙ length-take-le c.args.m c.split_at_mut-sizes.result.1.now (omega arith)

pub join-requires-clause-swept : goal.join-requires-clause-swept
join-requires-clause-swept c =
    let s = c.args in
    let p = (goal.at.join-requires-clause-swept c).After-own in
    let N = length c.own.new.links in
    let M = length c.zero-2.new.w in
    let il = subst₂ (λ (x y : ℕ). ItemLabels s.labels.now x s.k y) (sym (links-long p)) (sym (firsts-long p)) c.requires.item_labels in
    let e = c.own.auto.links in
    let f = c.zero-2.auto.w in
    swept_start s.labels.now N s.k M il c.own.new.links c.zero-2.new.w refl
    (λ i h. ap (λ (l : List ℕ). get_or l i 0) c.own.ensures ∙ at_up 0 _ i (omega arith) ∙ omega arith) refl
    (λ q h. ap (λ (l : List ℕ). get_or l q 0) c.zero-2.ensures ∙ get_or-replicate _ q 0 0 (omega arith))

pub returns : goal.returns
returns c =
    let s = c.args in
    let p = (goal.at.returns c).After-own in
    let n = length s.labels.now / s.k in
    let J = subst₂ (λ (x y : ℕ). Swept s.labels.now x s.k y c.join.new.links c.join.new.firsts (x * s.k)) (links-long p) (firsts-long p) c.join.ensures in
    let F = subst (λ (x : ℕ). Flattened c.join.new.links c.flatten.new.links x) J.links c.flatten.ensures in
    let flat = F.kept.long ∙ J.links in
    let T = subst (λ (x : ℕ). SizesTallied c.flatten.new.links c.zero.new.w c.tally.new.sizes x) (c.zero.auto.w ∙ c.split_at_mut-sizes.ensures.front_len) c.tally.ensures in
    let beyond = ap (drop s.m) (c.split_at_mut-sizes.ensures.back ∙ ap (drop n) c.split_at_mut-links.ensures.back ∙ drop-drop n n s.table.now) ∙ drop-drop s.m (n + n) s.table.now in
    table_made s.labels.now n s.k s.m c.flatten.new.links c.tally.new.sizes c.join.new.firsts _ s.table.now flat
    (T.long ∙ c.zero.auto.w ∙ c.split_at_mut-sizes.ensures.front_len) J.labelled c.requires.room beyond
    (swept_number s.labels.now n s.k s.m c.requires.item_labels c.join.new.links c.flatten.new.links c.join.new.firsts J F) T.sizes
    (swept_first s.labels.now n s.k s.m c.requires.item_labels c.join.new.links c.flatten.new.links c.join.new.firsts J F)
