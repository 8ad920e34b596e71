-- Laws of the tests and of what an output ends as: "exactly when" and "in the order tested" are read off one list.
use Rattle.std.specs.Prelude.{Ok, Err}
use Prim.Native.Nat.{ℕ}
use mathlib.Core.Path.{◌≡◌, refl}
use mathlib.Core.Bool.{Bool, true, false, cond}
use mathlib.Core.List.{List, [], ◌∷◌, ◌++◌}
use Rattle.words.specs.Overlay.{overlay}
use Rattle.lists.proofs.Bools.{cond_true, cond_false}
use Rattle.refusals.specs.declared.refusal.Refusal.{Refusal}
use Rattle.refusals.specs.declared.refusal.Refusal.TheVariants.{
  Ragged,
  TooMany,
  BadIndex,
  BadNumber,
  BadBox,
  GridTooFine,
  NoWorkRoom,
  KeyRange,
  OpenEdge,
  BadCap,
  MissingEdge,
  NoRoom,
}
use Rattle.refusals.specs.Refusals.{documented, Test, first_refusal, settle}

-- ---- a test at the head of the list

pub holds : (b : Bool) (r : Refusal) (ts : List Test) → b ≡ true → first_refusal ((b, r) ∷ ts) ≡ Err r
unfolding first_refusal
holds b r ts e = cond_true b _ _ _ e refl

pub passes : (b : Bool) (r : Refusal) (ts : List Test) → b ≡ false → first_refusal ((b, r) ∷ ts) ≡ first_refusal ts
unfolding first_refusal
passes b r ts e = cond_false b _ _ _ e refl

pub none_left : first_refusal [] ≡ Ok tt
unfolding first_refusal
none_left = refl

-- ---- a row of tests before others

-- "The tests" of the row all failed to refuse: those behind decide
pub row_passed : (ts us : List Test) → first_refusal ts ≡ Ok tt → first_refusal (ts ++ us) ≡ first_refusal us
unfolding first_refusal
row_passed [] us e = refl
row_passed (t ∷ ts) us e = go t.0 (row_passed ts us) e
  where
    go : (b : Bool) → (first_refusal ts ≡ Ok tt → first_refusal (ts ++ us) ≡ first_refusal us) → cond b (Err t.1) (first_refusal ts) ≡ Ok tt → cond b (Err t.1)
        (first_refusal (ts ++ us)) ≡ first_refusal us
    go true f e = cc
    go false f e = f e

-- one of the row holds: those behind are not asked
pub row_refused : (ts us : List Test) (r : Refusal) → first_refusal ts ≡ Err r → first_refusal (ts ++ us) ≡ Err r
unfolding first_refusal
row_refused [] us r e = cc
row_refused (t ∷ ts) us r e = go t.0 (row_refused ts us r) e
  where
    go : (b : Bool) → (first_refusal ts ≡ Err r → first_refusal (ts ++ us) ≡ Err r) → cond b (Err t.1) (first_refusal ts) ≡ Err r → cond b (Err t.1)
        (first_refusal (ts ++ us)) ≡ Err r
    go true f e = e
    go false f e = f e

-- ---- outputs

pub untouched : {A : Type 0} (r : Refusal) (result old : List A) → settle (documented r) result old ≡ old
unfolding settle documented
untouched Ragged result old = refl
untouched TooMany result old = refl
untouched BadIndex result old = refl
untouched BadNumber result old = refl
untouched BadBox result old = refl
untouched GridTooFine result old = refl
untouched (NoWorkRoom need) result old = refl
untouched KeyRange result old = refl
untouched (OpenEdge a b) result old = refl
untouched (BadCap place) result old = refl
untouched (MissingEdge place) result old = refl
untouched (NoRoom need) result old = refl

pub laid_over : {A : Type 0} (done : List ℕ) (result old : List A) → settle (0 ∷ done) result old ≡ overlay result old
unfolding settle
laid_over done result old = refl
