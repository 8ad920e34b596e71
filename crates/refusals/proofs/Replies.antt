-- Laws of an operation's whole reply: the row of tests in front, test 12 behind it, and what was done. Assumes nothing.
--   reply_refused, reply_passed    a row of tests in front, that refused or passed
--   not_done, reply_done           a reply whose number is 0 is no refusal
--   head_passed, tail_passed, row_front, row_rest   what is known once a row of tests has passed
use Rattle.std.specs.Prelude.{Result, Ok, Err}
use Prim.Native.Nat.{ℕ}
use mathlib.Core.Path.{◌≡◌, refl, ap, ◌∙◌}
use mathlib.Core.Bool.{Bool, true, false, cond}
use mathlib.Core.List.{List, [], ◌∷◌, ◌++◌}
use native.Mathlib.Omega.{arith}
use lib.ListN.{get_or}
use Rattle.refusals.specs.declared.refusal.Refusal.{Refusal}
use Rattle.refusals.specs.declared.refusal.Refusal.TheVariants.{
  Ragged,
  TooMany,
  BadIndex,
  BadNumber,
  BadBox,
  GridTooFine,
  NoWorkRoom,
  KeyRange,
  OpenEdge,
  BadCap,
  MissingEdge,
  NoRoom,
}
use Rattle.refusals.specs.Refusals.{documented, Test, first_refusal, numbered, reply_to}
use Rattle.refusals.proofs.Refusals.{passes, none_left, row_passed, row_refused}

module _ (ts us : List Test) (done : List ℕ) where
  pub reply_refused : (r : Refusal) → first_refusal ts ≡ Err r → reply_to (ts ++ us) done ≡ documented r
  reply_refused r e = ap (λ (c : Result (Unit {0}) Refusal). numbered c done) (row_refused ts us r e)

  pub reply_passed : first_refusal ts ≡ Ok tt → reply_to (ts ++ us) done ≡ reply_to us done
  reply_passed e = ap (λ (c : Result (Unit {0}) Refusal). numbered c done) (row_passed ts us e)

-- ---- a reply whose number is 0

-- a refusal's number is another
pub not_done : (q : Refusal) → get_or (documented q) 0 0 ≡ 0 → ⊥
unfolding documented
not_done Ragged e = omega arith
not_done TooMany e = omega arith
not_done BadIndex e = omega arith
not_done BadNumber e = omega arith
not_done BadBox e = omega arith
not_done GridTooFine e = omega arith
not_done (NoWorkRoom need) e = omega arith
not_done KeyRange e = omega arith
not_done (OpenEdge a b) e = omega arith
not_done (BadCap place) e = omega arith
not_done (MissingEdge place) e = omega arith
not_done (NoRoom need) e = omega arith

pub reply_done : (ts : List Test) (done : List ℕ) → get_or (reply_to ts done) 0 0 ≡ 0 → reply_to ts done ≡ 0 ∷ done
reply_done ts done = go (first_refusal ts)
  where
    go : (c : Result (Unit {0}) Refusal) → get_or (numbered c done) 0 0 ≡ 0 → numbered c done ≡ 0 ∷ done
    go (Ok x) e = refl
    go (Err q) e = absurd (not_done q e)

-- ---- what is known once tests have passed
module _ (b : Bool) (r : Refusal) (ts : List Test) where
  by_head : (c : Bool) → cond c (Err r) (first_refusal ts) ≡ Ok tt → (c ≡ false) × (first_refusal ts ≡ Ok tt)
  by_head true e = absurd (let z : ◌≡◌ {A = ℕ} 0 1 = cc in omega arith)
  by_head false e = (refl, e)

  pub head_passed : first_refusal ((b, r) ∷ ts) ≡ Ok tt → b ≡ false
  unfolding first_refusal
  head_passed e = (by_head b e).0

  pub tail_passed : first_refusal ((b, r) ∷ ts) ≡ Ok tt → first_refusal ts ≡ Ok tt
  unfolding first_refusal
  tail_passed e = (by_head b e).1

pub row_front : (ts us : List Test) → first_refusal (ts ++ us) ≡ Ok tt → first_refusal ts ≡ Ok tt
row_front [] us e = none_left
row_front (t ∷ ts) us e = passes t.0 t.1 ts (head_passed t.0 t.1 (ts ++ us) e) ∙ row_front ts us (tail_passed t.0 t.1 (ts ++ us) e)

pub row_rest : (ts us : List Test) → first_refusal (ts ++ us) ≡ Ok tt → first_refusal us ≡ Ok tt
row_rest [] us e = e
row_rest (t ∷ ts) us e = row_rest ts us (tail_passed t.0 t.1 (ts ++ us) e)
