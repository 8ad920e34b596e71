-- One answer more; and what the tests of the exports give.
use Prim.Native.Nat.{ℕ, zero, suc, ◌+◌, ◌*◌, ◌/◌, ◌≤◌, ◌<◌}
use native.Mathlib.Omega.{arith}
use native.Mathlib.Decide.{ℕ_discrete}
use native.Mathlib.Nat.{le-div_iff_mul-le, mul-div_cancel}
use mathlib.Core.Bool.{Bool}
use mathlib.Core.Path.{◌≡◌, refl, ◌∙◌}
use mathlib.Core.List.{List}
use lib.Dec.{eqb}
use lib.ListN.{get_or, set, length}
use lib.Seq.{get_or-set_same, get_or-set_other}
use Rattle.lists.specs.Regions.{view}
use Rattle.lists.proofs.Regions.{view_length, view_at}
use Rattle.components.specs.Table.{LabelsBelow}
use Rattle.std.specs.Prelude.{IfSome}
use Rattle.chains.specs.Links.{id_in, link_to}
use Rattle.chains.proofs.Firsts.{link_found}
use Rattle.leaf_exports.specs.Exports.{BelowUpTo, LinksFound}

pub answers_more : (keys asked found : List ℕ) (i v : ℕ) → i < length found → LinksFound keys asked found i → v ≡ link_to (eqb (get_or asked i 0)) keys
    → LinksFound keys asked (set found i v) (i + 1)
answers_more keys asked found i v h f e j l = go (ℕ_discrete j i)
  where
    go : Dec (j ≡ i) → get_or (set found i v) j 0 ≡ link_to (eqb (get_or asked j 0)) keys
    go (yes d) = rw d (get_or-set_same found i v 0 h ∙ e)
    go (no d) = get_or-set_other found i j v 0 d ∙ f j (omega arith)

pub labels_below : (w : List ℕ) (at e m : ℕ) → at + e ≤ length w → BelowUpTo w at e m → LabelsBelow (view w at e) m
labels_below w at e m fits f t h = let l = view_length w at e fits in rw (view_at w at e t (omega arith)) (f t (omega arith))

-- as many items as the room has labels for
pub labels_fit : (n k room : ℕ) → 0 < k → n ≤ room / k → n * k ≤ room
labels_fit n k room p h = (le-div_iff_mul-le p).0 h

-- how many items they are
pub label_items : (n k : ℕ) (labels : List ℕ) → 0 < k → length labels ≡ n * k → length labels / k ≡ n
label_items n k labels p e = rw e (mul-div_cancel n p)

-- a place as a link: the link is known by it, and small where the list is short
pub same_link : (u v : ℕ) → id_in u ≡ id_in v → u ≡ v
same_link zero zero e = refl
same_link zero (suc v) e = cc
same_link (suc u) zero e = cc
same_link (suc u) (suc v) e = cc

pub place_small : (t : ℕ → Bool) (l : List ℕ) (n : ℕ) → length l < n → IfSome (id_in (link_to t l)) (λ k. k < n)
place_small t l n h = go (link_to t l) refl
  where
    go : (v : ℕ) → link_to t l ≡ v → IfSome (id_in v) (λ k. k < n)
    go zero e = tt
    go (suc k) e = let b = (link_found t 0 l k e).0 in omega arith
