-- Laws of the first that passes, or none (specs/Lists.antt, `first`). Assumes nothing.
--   first_found    what is found is a member, and passes
--   first_none     where none is found no member passes
--   first_keep     the first of those kept
--   first_same     tests that agree on each member
use mathlib.Core.Path.{◌≡◌, refl, sym, ap, ◌∙◌}
use mathlib.Core.Bool.{Bool, true, false, cond, ◌&&◌}
use mathlib.Core.List.Memᴰ
use mathlib.Core.List.{List, [], ◌∷◌, Memᴰ}
use mathlib.Core.Logic.{⊎_elim}
use Rattle.std.specs.Prelude.{Option, None, Some}
use Rattle.std.proofs.lemmas.Option.{none-some, same_Some}
use Rattle.lists.specs.Lists.{keep, first}

module _ {A : Type 0} (p : A → Bool) where
  pub first_found : (l : List A) (x : A) → first p l ≡ Some x → Memᴰ x l × (p x ≡ true)
  first_found [] x e = absurd (none-some x e)
  first_found (y ∷ l) x e = go (p y) refl (first_found l x) e
    where
      go : (b : Bool) → p y ≡ b → (first p l ≡ Some x → Memᴰ x l × (p x ≡ true)) → cond b (Some y) (first p l) ≡ Some x → Memᴰ x (y ∷ l) × (p x ≡ true)
      go true h below q = let s = same_Some y x q in (Memᴰ.head (sym s), ap p (sym s) ∙ h)
      go false h below q = let r = below q in (Memᴰ.tail r.0, r.1)

  pub first_none : (l : List A) → first p l ≡ None → {x : A} → Memᴰ x l → p x ≡ false
  first_none [] e m = absurd (Memᴰ.not-nil m)
  first_none (y ∷ l) e {x} m = go (p y) refl (λ q r. first_none l q r) e
    where
      go : (b : Bool) → p y ≡ b → (first p l ≡ None → Memᴰ x l → p x ≡ false) → cond b (Some y) (first p l) ≡ None → p x ≡ false
      go true h below q = absurd (none-some y (sym q))
      go false h below q = ⊎_elim (λ s. ap p s ∙ h) (below q) (Memᴰ.cases_cons m)

  pub first_keep : (q : A → Bool) (l : List A) → first p (keep q l) ≡ first (λ x. q x && p x) l
  first_keep q [] = refl
  first_keep q (y ∷ l) = go (q y) (first_keep q l)
    where
      go : (b : Bool) → first p (keep q l) ≡ first (λ x. q x && p x) l
          → first p (cond b (y ∷ keep q l) (keep q l)) ≡ cond (b && p y) (Some y) (first (λ x. q x && p x) l)
      go true e = ap (cond (p y) (Some y)) e
      go false e = e

pub first_same : {A : Type 0} (p q : A → Bool) (l : List A) → ((x : A) → Memᴰ x l → p x ≡ q x) → first p l ≡ first q l
first_same p q [] h = refl
first_same {A} p q (y ∷ l) h =
    ap (λ (b : Bool). cond b (Some y) (first p l)) (h y (Memᴰ.head refl)) ∙ ap (λ (r : Option A). cond (q y) (Some y) r) (first_same p q l (λ x m. h x (Memᴰ.tail m)))
