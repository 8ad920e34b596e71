use Prim.Native.Nat.{ℕ, ◌/◌}
use mathlib.Core.Path.{subst}
use lib.ListN.{length}
use Rattle.lists.specs.Regions.{PartZeroed}
use Rattle.cap_selection.proofs.Opening.{sides_numbered}
use Rattle.cap_selection.proofs.Choosing.{markable, chosen}
use Rattle.cap_selection.proofs.seeds.select_caps.Goals as goal

-- `seeds::select_caps`: the steps one after the other. Assumes nothing.
pub join_caps-requires : goal.join_caps-requires
join_caps-requires c =
    let z = c in
    let s = z.args in
    sides_numbered s.caps.n s.caps.nf s.caps.k s.caps.list.now s.w.now z.requires.cap_ready z.requires.pairs_known

pub mark_seeds-requires : goal.mark_seeds-requires
mark_seeds-requires c =
    let z = c in
    let s = z.args in
    let u = c.join_caps in
    let v = c.zero_part in
    let e = subst (λ (x : ℕ). PartZeroed u.new.w v.new.w x (length s.caps.list.now / 4)) c.seeded_at.ensures v.ensures in
    markable s.caps.n s.caps.nf s.caps.k s.caps.list.now s.w.now u.new.w v.new.w z.requires.cap_ready z.requires.pairs_known u.ensures e

pub returns : goal.returns
returns c =
    let z = c in
    let s = z.args in
    let u = c.join_caps in
    let v = c.zero_part in
    let e = subst (λ (x : ℕ). PartZeroed u.new.w v.new.w x (length s.caps.list.now / 4)) c.seeded_at.ensures
    v.ensures in
    chosen s.caps.n s.caps.nf s.caps.k s.caps.list.now s.w.now u.new.w v.new.w z.requires.cap_ready z.requires.pairs_known u.ensures e c.mark_seeds.new.w
    c.mark_seeds.ensures
