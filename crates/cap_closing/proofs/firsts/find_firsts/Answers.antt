use Prim.Native.Nat.{◌≤◌, ℕ, ◌+◌, ◌*◌, ◌-◌, ◌<◌}
use mathlib.Core.Path.{◌≡◌, sym, subst}
use native.Mathlib.Omega.{arith}
use borrow.Rule.Slice.PartMut.{put_mid}
use lib.ListN.{length}
use Rattle.records.specs.Buffer.{payload_in}
use Rattle.sorting.proofs.Sorting.{sorted_part}
use Rattle.cap_triangles.specs.Room.{closing_at}
use Rattle.cap_closing.specs.Steps.{Found}
use Rattle.cap_closing.proofs.Sorted.{sorted_there, found}
use Rattle.cap_closing.proofs.firsts.find_firsts.Goals as goal

pub mark_firsts-requires : goal.mark_firsts-requires
mark_firsts-requires c =
    let s = c in
    let a = s.args in
    let R = s.requires.left_below in
    let m = c.threes_at-records.result in
    let t = c.threes_at-records.ensures in
    let room : m + 4 * a.left ≤ length a.w.now = (let x = R.0 in let y = R.1 in omega arith) in
    let S = sorted_part a.w.now c.sort_records.new.m m a.left room c.sort_records.ensures in
    let w₁ = put_mid m (m + 4 * a.left - m) a.w.now c.sort_records.new.m in
    let whole = subst (λ (k : ℕ). (j : ℕ) → j < a.left → payload_in a.w.now k j ≡ j) (sym t) s.requires.by_index in
    let f = c.firsts_at.ensures in record {
      left_bound = (let x = R.0 in omega arith, let x = R.0 in let y = R.1 in let l = S.same in omega arith);
      sorted_places = sorted_there a.w.now w₁ m a.left room S whole;
    }

pub returns : goal.returns
returns c =
    let s = c in
    let a = s.args in
    let b = closing_at a.room.n a.room.nf a.room.nc in
    let R = s.requires.left_below in
    let m = c.threes_at-records.result in
    let t = c.threes_at-records.ensures in
    let room : m + 4 * a.left ≤ length a.w.now = (let x = R.0 in let y = R.1 in omega arith) in
    let S = sorted_part a.w.now c.sort_records.new.m m a.left room
    c.sort_records.ensures in
    let w₁ = put_mid m (m + 4 * a.left - m) a.w.now c.sort_records.new.m in
    let whole = subst (λ (k : ℕ). (j : ℕ) → j < a.left → payload_in a.w.now k j ≡ j) (sym t) s.requires.by_index in
    subst (λ (k : ℕ). Found k (b + 2 * a.room.n + 7 * a.room.nc) a.left c.mark_firsts.result a.w.now c.mark_firsts.new.w) t
    (subst (λ (k : ℕ). Found m k a.left c.mark_firsts.result a.w.now c.mark_firsts.new.w)
    c.firsts_at.ensures (found a.w.now w₁ m a.left room S whole c.firsts_at.result
    c.mark_firsts.result c.mark_firsts.new.w (let f = c.firsts_at.ensures in let x = R.0 in omega arith)
    c.mark_firsts.ensures))
