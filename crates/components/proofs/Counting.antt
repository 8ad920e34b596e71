-- What the loop that counts the items of each number keeps, as laws on lists.
use Prim.Native.Nat.{ℕ, ◌+◌, ◌≤◌, ◌<◌}
use native.Mathlib.Numerals.{add-one}
use native.Mathlib.Omega.{arith}
use mathlib.Core.Path.{◌≡◌, refl, sym, ap, ◌∙◌}
use mathlib.Core.Bool.{cond}
use mathlib.Core.List.{List, [], ◌∷◌}
use mathlib.Core.Logic.{◌⊎◌, inl, inr}
use lib.Dec.{eqb}
use lib.ListN.{get_or, set, length, take, length-set}
use lib.Seq.{take-suc, take_all, length-take-le}
use borrow.Author.Tests.{eq-eqb, ne_eqb}
use Rattle.lists.proofs.Counts.{count_append, count_one, count_nil, count_le}
use Rattle.components.specs.Table.{size}
use Rattle.components.specs.Forest.{SizesTallied}
use Rattle.components.proofs.Forest.{stored_at}

-- the numbers before i are counted
pub record Counting (c w₀ w : List ℕ) (i : ℕ) : Type 0 where
  pub upto : i ≤ length c
  pub long : length w ≡ length w₀
  pub sizes : (r : ℕ) → r < length w₀ → get_or w r 0 ≡ size (take i c) r

pub counting_start : (c w : List ℕ) → ((r : ℕ) → r < length w → get_or w r 0 ≡ 0) → Counting c w w 0
counting_start c w z = record { upto = omega arith; long = refl; sizes = λ r h. z r h ∙ sym (count_nil (eqb r)) }

-- one number more
size_more : (c : List ℕ) (i r : ℕ) → i < length c → size (take (i + 1) c) r ≡ size (take i c) r + cond (eqb r (get_or c i 0)) 1 0
size_more c i r h =
    rw (add-one, take-suc c i 0 h, count_append (eqb r) (take i c) (get_or c i 0 ∷ []), count_one (eqb r) (get_or c i 0) (eqb r (get_or c i 0)) refl)

module _ (c w₀ w : List ℕ) (i : ℕ) (i_in : i < length c) (f : Counting c w₀ w i) where
  -- a count is no more than what was counted
  pub counting_low : (r : ℕ) → r < length w₀ → get_or w r 0 ≤ i
  counting_low r h =
      let a = f.sizes r h in
      let b = count_le (eqb r) (take i c) in
      let d = length-take-le i c (omega arith) in
      omega arith

  pub counting_turn : (r : ℕ) → r < length w → r ≡ get_or c i 0 → Counting c w₀ (set w r (get_or w r 0 + 1)) (i + 1)
  counting_turn r h e = record {
    upto = omega arith;
    long = length-set w r _ ∙ f.long;
    sizes = λ s l. go s l (stored_at w r (get_or w r 0 + 1) s h);
  }
    where
      v : List ℕ
      v = set w r (get_or w r 0 + 1)

      go : (s : ℕ) → s < length w₀ → ((s ≡ r) × (get_or v s 0 ≡ get_or w r 0 + 1)) ⊎ ((s ≡ r → ⊥) × (get_or v s 0 ≡ get_or w s 0)) → get_or v s 0 ≡ size (take (i + 1) c) s
      go s l (inl a) =
          a.1 ∙ ap (λ (x : ℕ). get_or w x 0 + 1) (sym a.0) ∙ rw (size_more c i s i_in, ← e, eq-eqb s r a.0) (ap (λ (x : ℕ). x + 1) (f.sizes s l))
      go s l (inr a) = a.1 ∙ rw (size_more c i s i_in, ← e, ne_eqb s r a.0) (f.sizes s l ∙ omega arith)

pub counting_end : (c w₀ w : List ℕ) (i : ℕ) → length c ≤ i → Counting c w₀ w i → SizesTallied c w₀ w (length w₀)
counting_end c w₀ w i e f = record { long = f.long; sizes = λ r h. f.sizes r h ∙ ap (λ (l : List ℕ). size l r) (take_all i c e) }
