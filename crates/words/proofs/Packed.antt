-- Laws of `packed`, one for every base: packed numbers compare as their digits do, the highest first, and the digits come back. Then the
-- same of pairs, edges and triples. Assumes nothing.
--   packed_lex, lex_packed      less as a word exactly if less by the first digit, or by the second where the first is the same
--   packed_injective            equal words have equal digits
--   packed_high, packed_low     the digits come back;   packed_back   a word is the packing of its digits
--   pair-.., edge-.., triple-..   these, of two numbers below 2^32, two ends in either order, three numbers below 2^21
use Prim.Native.Nat.{ℕ, zero, suc, ◌+◌, ◌*◌, ◌/◌, ◌%◌, ◌≤◌, ◌<◌, min, max}
use mathlib.Core.Path.{◌≡◌, refl, ap, ◌∙◌}
use mathlib.Core.Logic.{◌⊎◌, inl, inr, ⊎_elim}
use native.Mathlib.Nat.{mul-le-mul_right, suc-mul, mul-add-div_right, mul-add-mod_self_right, div-eq_of_lt, mod-eq_of_lt, div-add-mod', add-zero, min_comm, max_comm}
use native.Mathlib.Omega.{arith}
use Rattle.words.specs.Packed.{packed, pair_base, pair, pair_first, pair_second, edge, triple_base, triple, triple_first, triple_second, triple_third}

abbrev pub Lexicographic : ℕ → ℕ → ℕ → ℕ → Type 0
Lexicographic a b c d = (a < c) ⊎ ((a ≡ c) × (b < d))

pub less_equal_more : (a c : ℕ) → (a < c) ⊎ ((a ≡ c) ⊎ (c < a))
less_equal_more zero zero = inr (inl refl)
less_equal_more zero (suc c) = inl (omega arith)
less_equal_more (suc a) zero = inr (inr (omega arith))
less_equal_more (suc a) (suc c) =
    ⊎_elim (λ (h : a < c). inl (omega arith)) (⊎_elim (λ (h : a ≡ c). inr (inl (ap suc h))) (λ (h : c < a). inr (inr (omega arith)))) (less_equal_more a c)

module _ (base a b c d : ℕ) where
  packed_first : a < c → b < base → packed base a b < packed base c d
  packed_first h k = omega (arith, suc-mul a base, mul-le-mul_right base h)

  pub lex_packed : b < base → Lexicographic a b c d → packed base a b < packed base c d
  lex_packed k =
      ⊎_elim (λ (h : a < c). packed_first h k) (λ (h : (a ≡ c) × (b < d)). omega (arith, h.1, ap (λ (x : ℕ). x * base) h.0))

module _ (base a b c d : ℕ) (hb : b < base) (hd : d < base) where
  pub packed_lex : packed base a b < packed base c d → Lexicographic a b c d
  packed_lex l =
      ⊎_elim inl
      (⊎_elim (λ (h : a ≡ c). inr (h, omega (arith, ap (λ (x : ℕ). x * base) h)))
      (λ (h : c < a). absurd (omega (arith, packed_first base c d a b h hd))))
      (less_equal_more a c)

  pub packed_injective : packed base a b ≡ packed base c d → (a ≡ c) × (b ≡ d)
  packed_injective e =
      ⊎_elim (λ (h : a < c). absurd (omega (arith, packed_first base a b c d h hb)))
      (⊎_elim (λ (h : a ≡ c). (h, omega (arith, ap (λ (x : ℕ). x * base) h)))
      (λ (h : c < a). absurd (omega (arith, packed_first base c d a b h hd))))
      (less_equal_more a c)

module _ (base a b : ℕ) (h : b < base) where
  pub packed_high : packed base a b / base ≡ a
  packed_high = mul-add-div_right {m = base} (omega arith) a b ∙ ap (λ (x : ℕ). a + x) (div-eq_of_lt h) ∙ add-zero a

  pub packed_low : packed base a b % base ≡ b
  packed_low = mul-add-mod_self_right a base b ∙ mod-eq_of_lt h

  -- two digits are below the product of what they are below
  pub packed_below : (n : ℕ) → a < n → packed base a b < n * base
  packed_below n k = omega (arith, suc-mul a base, mul-le-mul_right base k)

pub packed_back : (base n : ℕ) → packed base (n / base) (n % base) ≡ n
packed_back base n = div-add-mod' n base

-- ---- pairs
module _ (a b : ℕ) (h : b < pair_base) where
  pub pair_first_lem : pair_first (pair a b) ≡ a
  pair_first_lem = packed_high pair_base a b h

  pub pair_second_lem : pair_second (pair a b) ≡ b
  pair_second_lem = packed_low pair_base a b h

module _ (a b c d : ℕ) (hb : b < pair_base) (hd : d < pair_base) where
  pub pair_lex : pair a b < pair c d → Lexicographic a b c d
  pair_lex = packed_lex pair_base a b c d hb hd

  pub lex_pair : Lexicographic a b c d → pair a b < pair c d
  lex_pair = lex_packed pair_base a b c d hb

  pub pair_injective : pair a b ≡ pair c d → (a ≡ c) × (b ≡ d)
  pair_injective = packed_injective pair_base a b c d hb hd

-- ---- edges
pub edge_exchange : (a b : ℕ) → edge a b ≡ edge b a
edge_exchange a b = rw (min_comm a b, max_comm a b)

pub edge_ascending : (a b : ℕ) → a ≤ b → edge a b ≡ pair a b
edge_ascending a b h = omega arith

pub edge_injective : (a b c d : ℕ) → a < pair_base → b < pair_base → c < pair_base → d < pair_base → edge a b ≡ edge c d
    → ((a ≡ c) × (b ≡ d)) ⊎ ((a ≡ d) × (b ≡ c))
edge_injective a b c d ha hb hc hd e =
    let p = pair_injective (min a b) (max a b) (min c d) (max c d) (omega arith) (omega arith) e in
    ⊎_elim (λ (h : a < c). inr (omega (arith, p.0, p.1)))
    (⊎_elim (λ (h : a ≡ c). inl (omega (arith, p.0, p.1))) (λ (h : c < a). inr (omega (arith, p.0, p.1))))
    (less_equal_more a c)

-- ---- triples
module _ (a b c : ℕ) (hb : b < triple_base) (hc : c < triple_base) where
  pub triple_first_lem : triple_first (triple a b c) ≡ a
  triple_first_lem = ap (λ (x : ℕ). x / triple_base) (packed_high triple_base (packed triple_base a b) c hc) ∙ packed_high triple_base a b hb

  pub triple_second_lem : triple_second (triple a b c) ≡ b
  triple_second_lem = ap (λ (x : ℕ). x % triple_base) (packed_high triple_base (packed triple_base a b) c hc) ∙ packed_low triple_base a b hb

  pub triple_third_lem : triple_third (triple a b c) ≡ c
  triple_third_lem = packed_low triple_base (packed triple_base a b) c hc

  -- a triple leaves one bit of a word free
  pub triple_below : a < triple_base → triple a b c < 9223372036854775808
  triple_below h = omega arith

module _ (a b c d e f : ℕ) (hb : b < triple_base) (hc : c < triple_base) (he : e < triple_base) (hf : f < triple_base) where
  pub triple_injective : triple a b c ≡ triple d e f → (a ≡ d) × ((b ≡ e) × (c ≡ f))
  triple_injective q =
      let p = packed_injective triple_base (packed triple_base a b) c (packed triple_base d e) f hc hf q in
      let r = packed_injective triple_base a b d e hb he p.0 in
      (r.0, (r.1, p.1))

  pub triple_lex : triple a b c < triple d e f → (Lexicographic a b d e) ⊎ ((a ≡ d) × ((b ≡ e) × (c < f)))
  triple_lex q =
      ⊎_elim (λ h. inl (packed_lex triple_base a b d e hb he h))
      (λ (h : (packed triple_base a b ≡ packed triple_base d e) × (c < f)). let r = packed_injective triple_base a b d e hb he h.0 in inr (r.0, (r.1, h.1)))
      (packed_lex triple_base (packed triple_base a b) c (packed triple_base d e) f hc hf q)

  pub lex_triple : (Lexicographic a b d e) ⊎ ((a ≡ d) × ((b ≡ e) × (c < f))) → triple a b c < triple d e f
  lex_triple =
      ⊎_elim (λ (h : Lexicographic a b d e). lex_packed triple_base (packed triple_base a b) c (packed triple_base d e) f hc (inl (lex_packed triple_base a b d e hb h)))
      (λ (h : (a ≡ d) × ((b ≡ e) × (c < f))). lex_packed triple_base (packed triple_base a b) c (packed triple_base d e) f hc
      (inr (ap (λ (x : ℕ). x * triple_base + b) h.0 ∙ ap (λ (x : ℕ). d * triple_base + x) h.1.0, h.1.1)))
