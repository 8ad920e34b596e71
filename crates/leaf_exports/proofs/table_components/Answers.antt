use mathlib.Core.Path.{refl, ap, subst, subst₂, ◌∙◌}
use Prim.Native.Nat.{ℕ, ◌+◌, ◌*◌, ◌/◌, ◌-◌}
use native.Mathlib.Omega.{arith}
use lib.ListN.{length, take}
use mathlib.Core.List.{List}
use Rattle.lists.specs.Regions.{view}
use Rattle.lists.proofs.Regions.{view_length}
use Rattle.components.specs.Table.{ComponentTable}
use Rattle.components.proofs.Lent.{table_before}
use mathlib.Core.Bool.{true≢false, false≢true}
use Rattle.leaf_exports.proofs.Answering.{labels_fit, labels_below, label_items}
use Rattle.leaf_exports.proofs.table_components.Goals as goal

-- `table_components` meets its contract. Assumes nothing.
pub returns-then-k-eq0 : goal.returns-then-k-eq0
returns-then-k-eq0 c = (λ e. absurd (false≢true e), λ e. refl)

pub returns-then-n-long : goal.returns-then-n-long
returns-then-n-long c = (λ e. absurd (false≢true e), λ e. refl)

pub returns-then-m-long : goal.returns-then-m-long
returns-then-m-long c = (λ e. absurd (false≢true e), λ e. refl)

pub returns-then-n-long-2 : goal.returns-then-n-long-2
returns-then-n-long-2 c = (λ e. absurd (false≢true e), λ e. refl)

pub overflow_mul-n : goal.overflow_mul-n
overflow_mul-n c =
    let s = c.args in
    let h = labels_fit s.n s.k (length s.w.now - s.n - s.n - s.m) (omega arith) (omega arith) in
    omega arith

pub all_below-requires : goal.all_below-requires
all_below-requires c =
    let s = c.args in
    let h = labels_fit s.n s.k (length s.w.now - s.n - s.n - s.m) (omega arith) (omega arith) in
    omega arith

pub components-requires : goal.components-requires
components-requires c =
    let s = c.args in
    let h = labels_fit s.n s.k (length s.w.now - s.n - s.n - s.m) (omega arith) (omega arith) in
    let split = c.split_at_mut-table in
    let read = ap (take (s.n * s.k)) split.ensures.back in
    let long = view_length s.w.now (s.n + s.n + s.m) (s.n * s.k) (omega arith) in
    let items = label_items s.n s.k (take (s.n * s.k) split.result.1.now) (omega arith) (ap length read ∙ long) in
    record {
      item_labels = rw (items, read) (record {
        some = omega arith;
        long = long;
        below = labels_below s.w.now (s.n + s.n + s.m) (s.n * s.k) s.m (omega arith) (c.all_below.ensures c.if-all_below.true);
      });
      room = rw items (omega (arith, split.ensures.front_len));
    }

pub returns-then-all_below : goal.returns-then-all_below
returns-then-all_below c =
    let s = c.args in
    let h = labels_fit s.n s.k (length s.w.now - s.n - s.n - s.m) (omega arith) (omega arith) in
    let split = c.split_at_mut-table in
    let read = ap (take (s.n * s.k)) split.ensures.back in
    let long = view_length s.w.now (s.n + s.n + s.m) (s.n * s.k) (omega arith) in
    let items = label_items s.n s.k (take (s.n * s.k) split.result.1.now) (omega arith) (ap length read ∙ long) in (
      λ e. rw split.ensures.back (table_before s.w.now c.components.new.table (s.n + s.n + s.m) (view s.w.now (s.n + s.n + s.m) (s.n * s.k)) s.n s.k s.m (omega arith) (omega arith)
          (subst₂ (λ (x : ℕ) (l : List ℕ). ComponentTable l x s.k s.m 0 (take (s.n + s.n + s.m) s.w.now) c.components.new.table) items read
          (subst (λ (l : List ℕ). ComponentTable (take (s.n * s.k) split.result.1.now) (length (take (s.n * s.k) split.result.1.now) / s.k) s.k s.m 0 l c.components.new.table) split.ensures.front
          c.components.ensures))),
      λ e. absurd (true≢false e),
    )

pub returns-else-all_below : goal.returns-else-all_below
returns-else-all_below c = (λ e. absurd (false≢true e), λ e. refl)
