-- Laws of `keep` and `count`.
use Prim.Native.Nat.{ℕ, zero, suc, ◌+◌, ◌≤◌, ◌<◌}
use native.Mathlib.Omega.{arith}
use mathlib.Core.Path.{◌≡◌, refl, ap, ◌∙◌}
use mathlib.Core.Bool.{Bool, true, false, cond, true≢false, false≢true}
use mathlib.Core.List.{List, [], ◌∷◌, ◌++◌, Memᴰ}
use lib.ListN.{get_or, length, length-append}
use Rattle.lists.specs.Lists.{keep, count}

module _ {A : Type 0} (p : A → Bool) where
  pub keep_append : (l r : List A) → keep p (l ++ r) ≡ keep p l ++ keep p r
  keep_append [] r = refl
  keep_append (x ∷ l) r = go (p x) (keep_append l r)
    where
      go : (b : Bool) → keep p (l ++ r) ≡ keep p l ++ keep p r → cond b (x ∷ keep p (l ++ r)) (keep p (l ++ r)) ≡ cond b (x ∷ keep p l) (keep p l) ++ keep p r
      go true e = ap (λ (s : List A). x ∷ s) e
      go false e = e

  pub count_append : (l r : List A) → count p (l ++ r) ≡ count p l + count p r
  count_append l r = ap (length {A = A}) (keep_append l r) ∙ length-append (keep p l) (keep p r)

  pub count_one : (x : A) (b : Bool) → p x ≡ b → count p (x ∷ []) ≡ cond b 1 0
  count_one x true e = rw e refl
  count_one x false e = rw e refl

  pub count_nil : count p [] ≡ 0
  count_nil = refl

  pub count_le : (l : List A) → count p l ≤ length l
  count_le [] = omega arith
  count_le (x ∷ l) = go (p x) (count_le l)
    where
      go : (b : Bool) → count p l ≤ length l → length (cond b (x ∷ keep p l) (keep p l)) ≤ suc (length l)
      go true h = omega arith
      go false h = omega arith

-- two tests that agree on the members keep the same
pub keep_same : {A : Type 0} (p q : A → Bool) (l : List A) → ((x : A) → Memᴰ x l → p x ≡ q x) → keep p l ≡ keep q l
keep_same p q [] h = refl
keep_same {A} p q (x ∷ l) h =
    let e = h x (Memᴰ.head refl) in
    let r = keep_same p q l (λ y m. h y (Memᴰ.tail m)) in
    ap (λ (b : Bool). cond b (x ∷ keep p l) (keep p l)) e ∙ ap (λ (s : List A). cond (q x) (x ∷ s) s) r

-- tests that agree place by place count the same
pub count_places : {A B : Type 0} (p : A → Bool) (q : B → Bool) (d : A) (e : B) (l : List A) (r : List B) → length l ≡ length r
    → ((i : ℕ) → i < length l → p (get_or l i d) ≡ q (get_or r i e)) → count p l ≡ count q r
count_places p q d e [] [] h f = refl
count_places p q d e [] (y ∷ r) h f = absurd (omega arith)
count_places p q d e (x ∷ l) [] h f = absurd (omega arith)
count_places {A} {B} p q d e (x ∷ l) (y ∷ r) h f = go (p x) (q y) (f 0 (omega arith)) (count_places p q d e l r (omega arith) (λ i a. f (suc i) (omega arith)))
  where
    go : (b c : Bool) → b ≡ c → count p l ≡ count q r → length (cond b (x ∷ keep p l) (keep p l)) ≡ length (cond c (y ∷ keep q r) (keep q r))
    go true true g s = ap suc s
    go false false g s = s
    go true false g s = absurd (true≢false g)
    go false true g s = absurd (false≢true g)

-- ---- how many, by the places that pass

module _ {A : Type 0} (p : A → Bool) (d : A) where
  pub count_none : (l : List A) → ((i : ℕ) → i < length l → p (get_or l i d) ≡ false) → count p l ≡ 0
  count_none [] h = refl
  count_none (x ∷ l) h = rw (h 0 (omega arith)) (count_none l (λ i q. h (suc i) (omega arith)))

  pub count_some : (l : List A) (i : ℕ) → i < length l → p (get_or l i d) ≡ true → 1 ≤ count p l
  count_some [] i q e = absurd (omega arith)
  count_some (x ∷ l) zero q e = rw e (omega arith)
  count_some (x ∷ l) (suc i) q e = go (p x) (count_some l i (omega arith) e)
    where
      go : (b : Bool) → 1 ≤ count p l → 1 ≤ length (cond b (x ∷ keep p l) (keep p l))
      go true h = omega arith
      go false h = h

  -- one place alone
  pub count_only : (l : List A) (i : ℕ) → i < length l → p (get_or l i d) ≡ true → ((j : ℕ) → j < length l → (j ≡ i → ⊥) → p (get_or l j d) ≡ false) → count p l ≡ 1
  count_only [] i q e f = absurd (omega arith)
  count_only (x ∷ l) zero q e f = rw e (ap suc (count_none l (λ j h. f (suc j) (omega arith) (λ z. omega arith))))
  count_only (x ∷ l) (suc i) q e f = rw (f 0 (omega arith) (λ z. omega arith)) (count_only l i (omega arith) e (λ j h n. f (suc j) (omega arith) (λ z. n (omega arith))))

  -- two places
  pub count_two : (l : List A) (i j : ℕ) → i < j → j < length l → p (get_or l i d) ≡ true → p (get_or l j d) ≡ true → 2 ≤ count p l
  count_two [] i j h q a b = absurd (omega arith)
  count_two (x ∷ l) i zero h q a b = absurd (omega arith)
  count_two (x ∷ l) zero (suc j) h q a b = rw a (let c = count_some l j (omega arith) b in omega arith)
  count_two (x ∷ l) (suc i) (suc j) h q a b = go (p x) (count_two l i j (omega arith) (omega arith) a b)
    where
      go : (c : Bool) → 2 ≤ count p l → 2 ≤ length (cond c (x ∷ keep p l) (keep p l))
      go true h = omega arith
      go false h = h
