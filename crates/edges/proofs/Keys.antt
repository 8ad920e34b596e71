-- The packed pair of a side says all that the definitions ask of its pair, where the ends are below 2^32. Assumes nothing.
--   same_pair_lem, pair_same   `same_pair` as a fact on the ends
--   same_pair_key          two sides have the same pair exactly if they have the same key
--   pair_before_key        the order of sorted pairs is that of the keys
--   key_first, key_second  the key's two numbers are the sorted pair
--   same_ends_sorted, sorted_same_ends   the same two ends exactly if the same sorted pair, whatever the ends
use Prim.Native.Nat.{ℕ, ◌<◌, min, max}
use mathlib.Core.Bool.{Bool, true, false, ◌&&◌, ◌||◌}
use mathlib.Core.Logic.{◌⊎◌, inl, inr, ⊎_elim}
use mathlib.Core.Path.{◌≡◌, refl, sym, ap, ◌∙◌}
use native.Mathlib.Omega.{arith}
use borrow.Author.Tests.{ltb-true, eqb-true, eqb-false, eq-eqb, lt-ltb}
use lib.Dec.{eqb, ltb}
use Rattle.lists.proofs.Bools.{and_left, and_right, both_ways}
use Rattle.lists.proofs.Orders.{cases, never}
use Rattle.words.specs.Packed.{pair_first, pair_second}
use Rattle.words.proofs.Packed.{pair_first_lem, pair_second_lem, pair_lex, lex_pair, edge_exchange, edge_injective}
use Rattle.records.proofs.Comparing.{lex_before, not_lex}
use Rattle.edges.specs.Edges.{sorted_pair, same_pair, pair_before}
use Rattle.edges.specs.Table.{edge_key}
use Rattle.edges.proofs.Sides.{Small}

abbrev pub SameEnds : ℕ × ℕ → ℕ × ℕ → Type 0
SameEnds s t = ((s.0 ≡ t.0) × (s.1 ≡ t.1)) ⊎ ((s.0 ≡ t.1) × (s.1 ≡ t.0))

pub pair_same : (s t : ℕ × ℕ) → SameEnds s t → same_pair s t ≡ true
unfolding same_pair
pair_same s t =
    ⊎_elim (λ (h : (s.0 ≡ t.0) × (s.1 ≡ t.1)). rw (eq-eqb s.0 t.0 h.0, eq-eqb s.1 t.1 h.1))
    (λ (h : (s.0 ≡ t.1) × (s.1 ≡ t.0)). rw (eq-eqb s.0 t.1 h.0, eq-eqb s.1 t.0 h.1) (or_true (eqb s.0 t.0 && eqb s.1 t.1)))
  where
    or_true : (b : Bool) → (b || true) ≡ true
    or_true true = refl
    or_true false = refl

pub same_pair_lem : (s t : ℕ × ℕ) → same_pair s t ≡ true → SameEnds s t
unfolding same_pair
same_pair_lem s t h =
    ⊎_elim
    (λ (e : (eqb s.0 t.0 && eqb s.1 t.1) ≡ true).
    inl (eqb-true s.0 t.0 (and_left (eqb s.0 t.0) (eqb s.1 t.1) e), eqb-true s.1 t.1 (and_right (eqb s.0 t.0) (eqb s.1 t.1) e)))
    (λ (e : (eqb s.0 t.0 && eqb s.1 t.1) ≡ false).
    let g : (eqb s.0 t.1 && eqb s.1 t.0) ≡ true = rw e at h in
    inr (eqb-true s.0 t.1 (and_left (eqb s.0 t.1) (eqb s.1 t.0) g), eqb-true s.1 t.0 (and_right (eqb s.0 t.1) (eqb s.1 t.0) g)))
    (cases (eqb s.0 t.0 && eqb s.1 t.1))

-- two tests that are true together

pub same_ends_sorted : (s t : ℕ × ℕ) → SameEnds s t → sorted_pair s ≡ sorted_pair t
same_ends_sorted s t =
    ⊎_elim (λ (h : (s.0 ≡ t.0) × (s.1 ≡ t.1)). two (omega (arith, h.0, h.1)) (omega (arith, h.0, h.1)))
    (λ (h : (s.0 ≡ t.1) × (s.1 ≡ t.0)). two (omega (arith, h.0, h.1)) (omega (arith, h.0, h.1)))
  where
    two : {a b c d : ℕ} → a ≡ c → b ≡ d → ◌≡◌ {A = ℕ × ℕ} (a, b) (c, d)
    two e f = λ i. (e i, f i)

pub sorted_same_ends : (s t : ℕ × ℕ) → sorted_pair s ≡ sorted_pair t → SameEnds s t
sorted_same_ends s t e =
    let low : min s.0 s.1 ≡ min t.0 t.1 = ap (λ (r : ℕ × ℕ). r.0) e in
    let high : max s.0 s.1 ≡ max t.0 t.1 = ap (λ (r : ℕ × ℕ). r.1) e in
    ⊎_elim (λ (h : eqb s.0 t.0 ≡ true). let q = eqb-true s.0 t.0 h in inl (q, omega arith))
    (λ (h : eqb s.0 t.0 ≡ false). let q = eqb-false s.0 t.0 h in inr (omega arith, omega arith))
    (cases (eqb s.0 t.0))

module _ (s : ℕ × ℕ) (a : Small s) where
  pub key_first : pair_first (edge_key s) ≡ (sorted_pair s).0
  key_first = pair_first_lem (min s.0 s.1) (max s.0 s.1) (omega (arith, a.0, a.1))

  pub key_second : pair_second (edge_key s) ≡ (sorted_pair s).1
  key_second = pair_second_lem (min s.0 s.1) (max s.0 s.1) (omega (arith, a.0, a.1))

module _ (s t : ℕ × ℕ) (a : Small s) (b : Small t) where
  pub same_pair_key : same_pair s t ≡ eqb (edge_key s) (edge_key t)
  same_pair_key =
      both_ways (same_pair s t) (eqb (edge_key s) (edge_key t))
      (λ h. eq-eqb (edge_key s) (edge_key t) (⊎_elim (λ (e : (s.0 ≡ t.0) × (s.1 ≡ t.1)). λ i. edge_key (e.0 i, e.1 i))
      (λ (e : (s.0 ≡ t.1) × (s.1 ≡ t.0)). (λ i. edge_key (e.0 i, e.1 i)) ∙ edge_exchange t.1 t.0) (same_pair_lem s t h)))
      (λ h. pair_same s t (edge_injective s.0 s.1 t.0 t.1 a.0 a.1 b.0 b.1 (eqb-true (edge_key s) (edge_key t) h)))

  pub pair_before_key : pair_before s t ≡ ltb (edge_key s) (edge_key t)
  unfolding pair_before
  pair_before_key =
      let hs : max s.0 s.1 < 4294967296 = omega (arith, a.0, a.1) in
      let ht : max t.0 t.1 < 4294967296 = omega (arith, b.0, b.1) in
      ⊎_elim (λ (h : ltb (edge_key s) (edge_key t) ≡ true).
      lex_before (sorted_pair s) (sorted_pair t) (pair_lex (min s.0 s.1) (max s.0 s.1) (min t.0 t.1) (max t.0 t.1) hs ht (ltb-true (edge_key s) (edge_key t) h)) ∙
      sym h)
      (λ (h : ltb (edge_key s) (edge_key t) ≡ false).
      not_lex (sorted_pair s) (sorted_pair t) (λ l.
      let k = lex_pair (min s.0 s.1) (max s.0 s.1) (min t.0 t.1) (max t.0 t.1) hs ht l in
      never (ltb (edge_key s) (edge_key t)) (lt-ltb (edge_key s) (edge_key t) k) h) ∙ sym h)
      (cases (ltb (edge_key s) (edge_key t)))
