use Prim.Native.Nat.{ℕ, zero, suc, ◌+◌, ◌*◌}
use native.Mathlib.Omega.{arith}
use mathlib.Core.Path.{◌≡◌, refl, ap, ◌∙◌}
use mathlib.Core.List.{List, ◌∷◌}
use borrow.Author.Rules.{rules}
use Rattle.std.specs.List.{range_with_len, list_any}
use Rattle.std.proofs.lemmas.Iterator.{YieldsList-from_range}
use Rattle.std.proofs.lemmas.Iterator.Search.{any_from_yields_List}
use Rattle.lists.specs.Lists.{up_from}
use Rattle.candidate_grids.specs.Steps.{hit_at, skips_at}
use Rattle.candidate_grids.proofs.grids.is_skipped.Goals as goal

up_range : (k n : ℕ) → range_with_len k n ≡ up_from k n
unfolding up_from
up_range k zero = refl
up_range k (suc n) = let next : k + 1 ≡ suc k = omega arith in ap (λ (l : List ℕ). k ∷ l) (ap (λ (j : ℕ). range_with_len j n) next ∙ up_range (suc k) n)

pub returns : goal.returns
unfolding skips_at
returns c =
    let a = c.args in
    any_from_yields_List (λ i. hit_at a.w.now (a.near.at + 5 * i) a.near.tolerance a.p) _ _ c.any.result c.any.ensures.ran
    (YieldsList-from_range 0 a.near.count a.near.count refl (omega arith)) (λ x b q e. search rules)
    ∙ ap (list_any (λ i. hit_at a.w.now (a.near.at + 5 * i) a.near.tolerance a.p)) (up_range 0 a.near.count)
