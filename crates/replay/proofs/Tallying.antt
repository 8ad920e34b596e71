-- Laws of the two walks over the records of a file. Assumes nothing.
--   Walking             the walk of `are_records`: more, end, and where no record is whole
--   one_if              1 of what holds, and 0 of what does not
--   Tallying            the walk of `count`: more, end
use Prim.Native.Nat.{ℕ, suc, ◌+◌, ◌-◌, ◌≤◌, ◌<◌}
use mathlib.Core.Path.{◌≡◌, refl, sym, ap, ◌∙◌, subst}
use mathlib.Core.Bool.{Bool, true, false}
use mathlib.Core.List.{List, [], ◌∷◌}
use native.Mathlib.Omega.{arith}
use borrow.Author.Tests.{eqb-true, eq-eqb}
use mir.Val.{bool_byte}
use lib.Dec.{eqb}
use lib.ListN.{length, drop, length-drop, length-take}
use Rattle.lists.specs.Lists.{Decides}
use Rattle.lists.proofs.Bools.{is_true, yes}
use Rattle.replay.specs.Words.{record_length, FirstRecord}
use Rattle.replay.specs.Counting.{Records, none, more, Requested, Agreeing, OneIf, Tallied, stop, onto}
use Rattle.replay.proofs.Deciding.{refuted}

-- ---- the records of a file

without_first : (l : List ℕ) (k : ℕ) → 0 < record_length l → Records l (suc k) → Records (drop (record_length l) l) k
without_first l k p (more q r) = r

no_record : (l : List ℕ) (k : ℕ) → record_length l ≡ 0 → Records l (suc k) → ⊥
no_record l k e (more q r) = omega arith

all_found : (l : List ℕ) → Records l 0 → l ≡ []
all_found l none = refl

empty : (l : List ℕ) → length l ≡ 0 → l ≡ []
empty [] e = refl
empty (x ∷ xs) e = absurd (omega arith)

-- `done` of `count` records are passed, and `left` is what is behind them
pub record Walking (records : List ℕ) (count : ℕ) (left : List ℕ) (done : ℕ) : Type 0 where
  pub onward : (k : ℕ) → k + done ≡ count → Records left k → Records records count
  pub back : Records records count → (k : ℕ) → k + done ≡ count → Records left k

module _ (records : List ℕ) (count : ℕ) where
  module _ (left : List ℕ) (done : ℕ) (w : Walking records count left done) where
    pub walking_more : (front behind : List ℕ) → FirstRecord left front behind → Walking records count behind (done + 1)
    walking_more front behind f = record {
      onward = λ k e r. w.onward (suc k) (omega arith) (more {rest = left} {n = k} f.whole (subst (λ (l : List ℕ). Records l k) f.rest_is r));
      back = λ r k e. subst (λ (l : List ℕ). Records l k) (sym f.rest_is) (without_first left k f.whole (w.back r (suc k) (omega arith)));
    }

    pub walking_stuck : done < count → record_length left ≡ 0 → Decides (Records records count) false
    walking_stuck h z = refuted (λ r. no_record left (count - done - 1) z (w.back r (suc (count - done - 1)) (omega arith)))

    pub walking_end : (r : Bool) → count ≡ done → r ≡ eqb (length left) 0 → Decides (Records records count) r
    walking_end r h e = record {
      sound = λ t.
          let l : left ≡ [] = empty left (eqb-true (length left) 0 (sym e ∙ is_true r t)) in
          w.onward 0 (omega arith) (subst (λ (m : List ℕ). Records m 0) (sym l) none);
      complete = λ p. yes (e ∙ eq-eqb (length left) 0 (ap length (all_found left (w.back p 0 (omega arith)))));
    }

-- ---- 1 and 0

pub one_if : {P : Type 0} {b : Bool} → Decides P b → OneIf P (bool_byte b)
one_if {b = true} d = record { few = omega arith; sound = λ _. d.sound tt; complete = λ _. refl }
one_if {b = false} d = record { few = omega arith; sound = λ e. absurd (omega arith); complete = λ p. absurd (d.complete p) }

-- ---- a tally

same_counts : (operation : ℕ) (l : List ℕ) {r s a b : ℕ} → r ≡ s → a ≡ b → Tallied operation l r a → Tallied operation l s b
same_counts operation l {r} {s} {a} {b} p q t =
    subst (λ (m : ℕ). Tallied operation l s m) q (subst (λ (m : ℕ). Tallied operation l m a) p t)

pub record Tallying (operation : ℕ) (records left : List ℕ) (requests agreeing : ℕ) : Type 0 where
  pub few : requests + length left ≤ length records
  pub fewer : agreeing + length left ≤ length records
  pub onward : (r a : ℕ) → Tallied operation left r a → Tallied operation records (requests + r) (agreeing + a)

module _ (operation : ℕ) (records : List ℕ) where
  module _ (left : List ℕ) (requests agreeing : ℕ) (w : Tallying operation records left requests agreeing) where
    pub tally_end : record_length left ≡ 0 → Tallied operation records requests agreeing
    tally_end e =
        let p : requests + 0 ≡ requests = omega arith in
        let q : agreeing + 0 ≡ agreeing = omega arith in
        same_counts operation records p q (w.onward 0 0 (stop e))

    shorter : (front behind : List ℕ) → FirstRecord left front behind → 0 < length front → length behind < length left
    shorter front behind f h =
        let n = record_length left in
        let a : length behind ≡ length left - n = ap length f.rest_is ∙ length-drop n left in
        let b : length front ≤ length left = subst (λ (l : List ℕ). length l ≤ length left) (sym f.first) (simp length-take (omega arith)) in
        let p = f.whole in
        omega arith

    pub tally_more : (k j : ℕ) (front behind : List ℕ) → FirstRecord left front behind → OneIf (Requested operation front) k → OneIf (Agreeing operation front) j
        → 0 < length front → Tallying operation records behind (requests + k) (agreeing + j)
    tally_more k j front behind f x y h = let b = shorter front behind f h in record {
      few = omega (arith, w.few, x.few);
      fewer = omega (arith, w.fewer, y.few);
      onward = λ r a t.
          let u : requests + (k + r) ≡ requests + k + r = omega arith in
          let v : agreeing + (j + a) ≡ agreeing + j + a = omega arith in
          same_counts operation records u v
          (w.onward (k + r) (j + a)
          (onto {rest = left} f.whole
          (subst (λ (l : List ℕ). OneIf (Requested operation l) k) f.first x)
          (subst (λ (l : List ℕ). OneIf (Agreeing operation l) j) f.first y)
          (subst (λ (l : List ℕ). Tallied operation l r a) f.rest_is t)));
    }
