-- A side that is neither open nor irregular: its edge has two different ends and is borne by two sides, one each way. Assumes nothing.
--   both_ways_counted   of an edge with two ends: its bearers are those that run as s does and those that run back
--   one_end_counted     of an edge a, a: all its bearers run as s does
--   regular-side, side-regular   neither open nor irregular, exactly if so borne
use Prim.Native.Nat.{ℕ, zero, suc, ◌+◌, ◌≤◌}
use native.Mathlib.Omega.{arith}
use mathlib.Core.Bool.{Bool, true, false, ◌&&◌, ◌||◌}
use mathlib.Core.List.{List, [], ◌∷◌, Memᴰ}
use mathlib.Core.Path.{◌≡◌, refl, sym, ap, ◌∙◌}
use borrow.Author.Tests.{ltb-false, le-ltb, eqb-true, eq-eqb}
use lib.Dec.{eqb, ltb}
use lib.ListN.{length}
use Rattle.lists.specs.Lists.{count}
use Rattle.lists.proofs.Bools.{or_next, or_none_left, or_none_right, and_left, and_next}
use Rattle.lists.proofs.Counts.{keep_same, count_some}
use Rattle.lists.proofs.Members.{mem_get_d}
use Rattle.lists.proofs.Multiplicity.{more, count_cons}
use Rattle.edges.specs.Edges.{same_pair, bearers}
use Rattle.irregular_edges.specs.Irregular.{same_side, is_irregular}

abbrev back : ℕ × ℕ → ℕ × ℕ
back s = (s.1, s.0)

same_refl : (s : ℕ × ℕ) → same_side s s ≡ true
unfolding same_side
same_refl s = and_next _ _ _ (eq-eqb s.0 s.0 refl) (eq-eqb s.1 s.1 refl)

-- the pair is the side, or the side back
split : (s t : ℕ × ℕ) → same_pair s t ≡ (same_side s t || same_side (back s) t)
unfolding same_pair same_side
split s t = ap (λ (b : Bool). (eqb s.0 t.0 && eqb s.1 t.1) || b) (swap (eqb s.0 t.1) (eqb s.1 t.0))
  where
    swap : (a b : Bool) → (a && b) ≡ (b && a)
    swap true true = refl
    swap true false = refl
    swap false true = refl
    swap false false = refl

not_both : (s t : ℕ × ℕ) → (s.0 ≡ s.1 → ⊥) → same_side s t ≡ true → same_side (back s) t ≡ true → ⊥
unfolding same_side
not_both s t n a b =
    n (eqb-true s.0 t.0 (and_left _ _ a) ∙ sym (eqb-true s.1 t.0 (and_left _ _ b)))

-- a count of either of two tests that never both hold
count_either : {A : Type 0} (p q r : A → Bool) → ((x : A) → r x ≡ (p x || q x)) → ((x : A) → p x ≡ true → q x ≡ true → ⊥) → (l : List A) → count r l ≡ count p l + count q l
count_either p q r e n [] = refl
count_either p q r e n (x ∷ l) =
    count_cons r x l ∙ step (p x) (q x) (r x) (e x) (n x) (count p l) (count q l) (count r l) (count_either p q r e n l)
    ∙ sym (λ t. count_cons p x l t + count_cons q x l t)
  where
    step : (a b c : Bool) → c ≡ (a || b) → (a ≡ true → b ≡ true → ⊥) → (i j k : ℕ) → k ≡ i + j → more c k ≡ more a i + more b j
    step true true c h m i j k f = absurd (m refl refl)
    step true false c h m i j k f = rw h (omega (arith, f))
    step false true c h m i j k f = rw h (omega (arith, f))
    step false false c h m i j k f = rw h f

module _ (l : List (ℕ × ℕ)) (s : ℕ × ℕ) where
  pub both_ways_counted : (s.0 ≡ s.1 → ⊥) → bearers l s ≡ count (same_side s) l + count (same_side (back s)) l
  both_ways_counted n = count_either (same_side s) (same_side (back s)) (same_pair s) (split s) (λ t a b. not_both s t n a b) l

  pub one_end_counted : s.0 ≡ s.1 → bearers l s ≡ count (same_side s) l
  one_end_counted e = ap (length {A = ℕ × ℕ}) (keep_same (same_pair s) (same_side s) l (λ t m. split s t ∙ same t))
    where
      turned : (t : ℕ × ℕ) → same_side (back s) t ≡ same_side s t
      turned t = ap (λ (u : ℕ × ℕ). same_side u t) (λ i. (sym e i, e i))

      either : (a : Bool) → (a || a) ≡ a
      either true = refl
      either false = refl

      same : (t : ℕ × ℕ) → (same_side s t || same_side (back s) t) ≡ same_side s t
      same t = ap (λ (b : Bool). same_side s t || b) (turned t) ∙ either (same_side s t)

  module _ (here : Memᴰ s l) where
    self_counted : 1 ≤ count (same_side s) l
    self_counted =
        let i = mem_get_d (0, 0) here in
        count_some (same_side s) (0, 0) l i.0 i.1 (ap (same_side s) i.2 ∙ same_refl s)

    -- borne, and neither once nor irregularly
    module _ (closed : bearers l s ≡ 1 → ⊥) (regular : is_irregular l s ≡ false) where
      few : bearers l s ≤ 2
      unfolding is_irregular
      few = ltb-false 2 (bearers l s) (or_none_left (ltb 2 (bearers l s)) (ltb 1 (count (same_side s) l)) regular)

      alone : count (same_side s) l ≤ 1
      unfolding is_irregular
      alone = ltb-false 1 (count (same_side s) l) (or_none_right (ltb 2 (bearers l s)) (ltb 1 (count (same_side s) l)) regular)

      pub two_ends : s.0 ≡ s.1 → ⊥
      two_ends e = closed (one_end_counted e ∙ (let a = alone in let b = self_counted in omega (arith, a, b)))

      pub two_sides : bearers l s ≡ 2
      two_sides =
          let n = two_ends in
          let b = both_ways_counted n in
          let x = self_counted in
          let y = few in
          near (bearers l s) closed (omega (arith, b, x)) y
        where
          near : (k : ℕ) → (k ≡ 1 → ⊥) → 1 ≤ k → k ≤ 2 → k ≡ 2
          near zero h a b = absurd (omega (arith, a))
          near (suc zero) h a b = absurd (h refl)
          near (suc (suc k)) h a b = omega (arith, b)

      pub one_back : count (same_side (back s)) l ≡ 1
      one_back =
          let b = both_ways_counted two_ends in
          let t = two_sides in
          let x = self_counted in
          let y = alone in
          omega (arith, b, t, x, y)

    module _ (apart : s.0 ≡ s.1 → ⊥) (twice : bearers l s ≡ 2) (once : count (same_side (back s)) l ≡ 1) where
      pub not_open : bearers l s ≡ 1 → ⊥
      not_open e = absurd (omega (arith, e, twice))

      pub not_irregular : is_irregular l s ≡ false
      unfolding is_irregular
      not_irregular =
          let b = both_ways_counted apart in
          or_next _ _ _ (le-ltb 2 (bearers l s) (omega (arith, twice))) (le-ltb 1 (count (same_side s) l) (omega (arith, b, twice, once)))
