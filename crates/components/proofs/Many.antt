-- How many are joined to an item, by the component that is computed for it. Assumes nothing.
use Prim.Native.Nat.{ℕ}
use native.Mathlib.Omega.{arith}
use mathlib.Core.Bool.{Bool}
use mathlib.Core.List.{List, Memᴰ}
use lib.Dec.{T, leb, leb→le, le→leb}
use Rattle.lists.specs.Lists.{has, keep, count, Decides}
use Rattle.lists.proofs.Members.{keep_of, of_keep}
use Rattle.components.specs.Joined.{Among, ManyJoined, Once}
use Rattle.components.specs.Components.{components, component_of}
use Rattle.components.proofs.Joined.{joined_keeps}
use Rattle.components.proofs.Once.{once_keep, once_shorter}
use Rattle.components.proofs.Computed.{component_decides}

module _ (link : ℕ → ℕ → Bool) (turn : (i j : ℕ) → T (link i j) → T (link j i)) (l : List ℕ) (once : Once l) where
  -- m items or more are joined to i exactly if its component has m items or more
  pub component_many : (m : ℕ) {i : ℕ} → Memᴰ i l → Decides (ManyJoined (Among link l) m i) (leb m (count (has (component_of (components link l) i)) l))
  component_many m {i} q =
      let own = component_of (components link l) i in
      record {
        sound = λ t.
            record {
              others = keep (has own) l;
              once = once_keep (has own) l once;
              enough = leb→le m (count (has own) l) t;
              chain = λ j r. (component_decides link turn l once j q).sound (of_keep (has own) l r).1;
            };
        complete = λ h.
            let e = h.enough in
            let s = once_shorter h.others (keep (has own) l) h.once
            (λ j r. let c = h.chain j r in keep_of (has own) ((joined_keeps (λ (x : ℕ). Memᴰ x l) (λ x y a. (a.left_in, a.right_in)) _ _ c).0 q)
            ((component_decides link turn l once j q).complete c)) in
            le→leb m (count (has own) l) (omega arith);
      }
