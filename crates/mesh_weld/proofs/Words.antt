-- Keys and their words: equal keys have equal words, and the 27 cells are the words of the 27 keys. Assumes nothing.
use Prim.Native.Nat.{ℕ, zero, suc, ◌+◌, ◌*◌, ◌-◌, ◌^◌, ◌≤◌, ◌<◌}
use native.Mathlib.Omega.{arith}
use mathlib.Core.Path.{◌≡◌, refl, sym, subst, ◌∙◌}
use mathlib.Core.Bool.{false}
use mathlib.Core.List.{List, [], ◌∷◌, ◌++◌, map, flat_map}
use mathlib.Core.Logic.{⊎_elim}
use lib.Dec.{eqb}
use lib.IntN.{ℤ, pos, negsuc, suc_ℤ, pred_ℤ, nat_abs}
use lib.ListN.{drop}
use lib.Ieee.{Float}
use mir.Syntax.{w64}
use mir.Val.{SFits}
use borrow.Author.Tests.{eqb-true, eqb-false, eq-eqb, ne_eqb, ltb-false}
use Rattle.rounding.specs.Rounding.{key, beyond, far_key, key_word}
use Rattle.geometry.specs.declared.point.Point.{Point}
use Rattle.mesh_weld.specs.declared.cells.Cell.{Cell}
use Rattle.mesh_weld.specs.Cells.{Key, key_of, same, same_key, beside, around}
use Rattle.mesh_weld.specs.Room.{words_of, same_cell, KeyIn, up, block}
use Rattle.lists.proofs.Mapped.{Each}
use Rattle.lists.proofs.Sequences.{each_append}
use Rattle.lists.proofs.Orders.{cases}

-- two tests agree that hold and fail together
agree : (a b c d : ℕ) → (a ≡ b → c ≡ d) → (c ≡ d → a ≡ b) → eqb a b ≡ eqb c d
agree a b c d f g =
    ⊎_elim (λ e. e ∙ sym (eq-eqb c d (f (eqb-true a b e)))) (λ e. e ∙ sym (ne_eqb c d (λ q. eqb-false a b e (g q)))) (cases (eqb a b))

pub same_word : (a b : ℤ) → SFits w64 a → SFits w64 b → same a b ≡ eqb (key_word a) (key_word b)
unfolding key_word
same_word (pos a) (pos b) p q = agree a b (key_word (pos a)) (key_word (pos b)) (λ e. omega arith) (λ e. omega arith)
same_word (pos a) (negsuc b) p q = sym (ne_eqb (key_word (pos a)) (key_word (negsuc b)) (λ e. omega arith))
same_word (negsuc a) (pos b) p q = sym (ne_eqb (key_word (negsuc a)) (key_word (pos b)) (λ e. omega arith))
same_word (negsuc a) (negsuc b) p q =
    let f = p.sfits in let g = q.sfits in agree a b (key_word (negsuc a)) (key_word (negsuc b)) (λ e. omega arith) (λ e. omega arith)

-- a key's words are numbers of 64 bits
pub record FitKey (k : Key) : Type 0 where
  pub x : SFits w64 k.x
  pub y : SFits w64 k.y
  pub z : SFits w64 k.z

pub same_words : (a b : Key) → FitKey a → FitKey b → same_key a b ≡ same_cell (words_of a) (words_of b)
unfolding same_key
same_words a b p q =
    rw (same_word a.x b.x p.x q.x, same_word a.y b.y p.y q.y, same_word a.z b.z p.z q.z)

-- ---- a key that is not beyond 2 ^ 62, and the keys beside it

pub abs_low : (k : ℤ) → beyond k ≡ false → nat_abs k ≤ 2 ^ 62
unfolding beyond
abs_low k h = ltb-false (2 ^ 62) (nat_abs k) h

-- k's word has one on every side
pub record Inner (k : ℤ) : Type 0 where
  pub low : 2 ^ 62 ≤ key_word k
  pub high : key_word k ≤ 2 ^ 63 + 2 ^ 62
  pub fits : SFits w64 k
  pub below : SFits w64 (pred_ℤ k)
  pub above : SFits w64 (suc_ℤ k)
  pub word_below : key_word k - 1 + 0 ≡ key_word (pred_ℤ k)
  pub word_same : key_word k - 1 + 1 ≡ key_word k
  pub word_above : key_word k - 1 + 2 ≡ key_word (suc_ℤ k)

-- a number whose word lies inside the words
fits_word : (k : ℤ) → 0 < key_word k → key_word k < 2 ^ 64 → SFits w64 k
unfolding key_word
fits_word (pos n) l h = record { sfits = omega arith }
fits_word (negsuc n) l h = record { sfits = omega arith }

beside_word : (k : ℤ) → nat_abs k ≤ 2 ^ 62
    → (2 ^ 62 ≤ key_word k) × (key_word k ≤ 2 ^ 63 + 2 ^ 62) × (key_word k ≡ key_word (pred_ℤ k) + 1) × (key_word (suc_ℤ k) ≡ key_word k + 1)
unfolding key_word
beside_word (pos zero) l = (omega arith, omega arith, omega arith, omega arith)
beside_word (pos (suc n)) l = (omega arith, omega arith, omega arith, omega arith)
beside_word (negsuc zero) l = (omega arith, omega arith, omega arith, omega arith)
beside_word (negsuc (suc n)) l = (omega arith, omega arith, omega arith, omega arith)

pub inner : (k : ℤ) → beyond k ≡ false → Inner k
inner k h = let w = beside_word k (abs_low k h) in record {
  low = w.0;
  high = w.1;
  fits = fits_word k (omega (arith, w)) (omega (arith, w));
  below = fits_word (pred_ℤ k) (omega (arith, w)) (omega (arith, w));
  above = fits_word (suc_ℤ k) (omega (arith, w)) (omega (arith, w));
  word_below = omega (arith, w);
  word_same = omega (arith, w);
  word_above = omega (arith, w);
}

pub record InnerKey (k : Key) : Type 0 where
  pub x : Inner k.x
  pub y : Inner k.y
  pub z : Inner k.z

pub inner_key : (eps : Float) (p : Point) → KeyIn eps p → InnerKey (key_of eps p)
unfolding key_of far_key
inner_key eps p h = record { x = inner (key eps p.x) h.x; y = inner (key eps p.y) h.y; z = inner (key eps p.z) h.z }

-- a cell that has one on every side
pub record Inside (c : Cell) : Type 0 where
  pub x_low : 2 ^ 62 ≤ c.x
  pub y_low : 2 ^ 62 ≤ c.y
  pub z_low : 2 ^ 62 ≤ c.z
  pub x_high : c.x ≤ 2 ^ 63 + 2 ^ 62
  pub y_high : c.y ≤ 2 ^ 63 + 2 ^ 62
  pub z_high : c.z ≤ 2 ^ 63 + 2 ^ 62

pub inside : (eps : Float) (p : Point) (c : Cell) → KeyIn eps p → c ≡ words_of (key_of eps p) → Inside c
inside eps p c h e =
    let i = inner_key eps p h in
    subst Inside (sym e) (record { x_low = i.x.low; y_low = i.y.low; z_low = i.z.low; x_high = i.x.high; y_high = i.y.high; z_high = i.z.high })

pub key_fits : (eps : Float) (p : Point) → KeyIn eps p → FitKey (key_of eps p)
key_fits eps p h = let i = inner_key eps p h in record { x = i.x.fits; y = i.y.fits; z = i.z.fits }

pub all_flat : {A B : Type 0} (Q : A → Type 0) (P : B → Type 0) (f : A → List B) → ((a : A) → Q a → Each P (f a)) → (xs : List A) → Each Q xs → Each P (flat_map f xs)
unfolding flat_map
all_flat Q P f h [] q = tt
all_flat Q P f h (x ∷ xs) q = each_append P (f x) (flat_map f xs) (h x q.0) (all_flat Q P f h xs q.1)

beside_fits : (k : ℤ) → Inner k → Each (SFits w64) (beside k)
beside_fits k i = (i.below, (i.fits, (i.above, tt)))

pub around_fits : (k : Key) → InnerKey k → Each FitKey (around k)
unfolding around
around_fits k i =
    all_flat (SFits w64) FitKey (λ x. flat_map (λ y. flat_map (λ z. record { x = x; y = y; z = z } ∷ []) (beside k.z)) (beside k.y))
    (λ x px. all_flat (SFits w64) FitKey (λ y. flat_map (λ z. record { x = x; y = y; z = z } ∷ []) (beside k.z))
    (λ y py. all_flat (SFits w64) FitKey (λ z. record { x = x; y = y; z = z } ∷ [])
    (λ z pz. (record { x = px; y = py; z = pz }, tt)) (beside k.z) (beside_fits k.z i.z))
    (beside k.y) (beside_fits k.y i.y))
    (beside k.x) (beside_fits k.x i.x)

-- the block that begins one below k's words is the words of the keys around k
lines : ℕ → ℕ → ℕ → ℕ → ℕ → List Cell
lines x y z₀ z₁ z₂ = record { x = x; y = y; z = z₀ } ∷ record { x = x; y = y; z = z₁ } ∷ record { x = x; y = y; z = z₂ } ∷ []

layers : ℕ → ℕ → ℕ → ℕ → ℕ → ℕ → ℕ → List Cell
unfolding lines
layers x y₀ y₁ y₂ z₀ z₁ z₂ = lines x y₀ z₀ z₁ z₂ ++ (lines x y₁ z₀ z₁ z₂ ++ lines x y₂ z₀ z₁ z₂)

cube : ℕ → ℕ → ℕ → ℕ → ℕ → ℕ → ℕ → ℕ → ℕ → List Cell
unfolding layers
cube x₀ x₁ x₂ y₀ y₁ y₂ z₀ z₁ z₂ = layers x₀ y₀ y₁ y₂ z₀ z₁ z₂ ++ (layers x₁ y₀ y₁ y₂ z₀ z₁ z₂ ++ layers x₂ y₀ y₁ y₂ z₀ z₁ z₂)

-- the cell one below k's words on every axis
abbrev pub corner_of : Cell → Cell
corner_of c = record { x = c.x - 1; y = c.y - 1; z = c.z - 1 }

word_pred : (k : ℤ) → 1 ≤ key_word k → key_word k - 1 + 0 ≡ key_word (pred_ℤ k)
unfolding key_word
word_pred (pos zero) h = omega arith
word_pred (pos (suc n)) h = omega arith
word_pred (negsuc n) h = omega arith

word_self : (k : ℤ) → 1 ≤ key_word k → key_word k - 1 + 1 ≡ key_word k
word_self k h = omega arith

word_suc : (k : ℤ) → 1 ≤ key_word k → key_word k - 1 + 2 ≡ key_word (suc_ℤ k)
unfolding key_word
word_suc (pos n) h = omega arith
word_suc (negsuc zero) h = omega arith
word_suc (negsuc (suc n)) h = omega arith

pub block_is : (k : Key) → 1 ≤ key_word k.x → 1 ≤ key_word k.y → 1 ≤ key_word k.z → block (corner_of (words_of k)) ≡ map words_of (around k)
unfolding around cube layers lines flat_map block
block_is k hx hy hz = λ i.
    cube (word_pred k.x hx i) (word_self k.x hx i) (word_suc k.x hx i)
    (word_pred k.y hy i) (word_self k.y hy i) (word_suc k.y hy i)
    (word_pred k.z hz i) (word_self k.z hz i) (word_suc k.z hz i)

pub cell_is : {x y z a b c : ℕ} → x ≡ a → y ≡ b → z ≡ c → (let l : Cell = record { x = x; y = y; z = z } in l) ≡ record { x = a; y = b; z = c }
cell_is e f g = λ i. record { x = e i; y = f i; z = g i }

-- ---- the block's cells, in turn

three : (P : ℕ → Type 0) → P 0 → P 1 → P 2 → (k : ℕ) → k < 3 → P k
three P a b c zero h = a
three P a b c (suc zero) h = b
three P a b c (suc (suc zero)) h = c
three P a b c (suc (suc (suc k))) h = absurd (omega arith)

-- the cells of the block from the x-th layer's y-th row's z-th on
abbrev pub from_cell : Cell → ℕ → List Cell
from_cell c i = drop i (block c)

abbrev Turn : Cell → ℕ → ℕ → ℕ → Type 0
Turn c x y z = from_cell c (9 * x + 3 * y + z) ≡ up c x y z ∷ from_cell c (9 * x + 3 * y + z + 1)

pub cell_turn : (c : Cell) (x y z : ℕ) → x < 3 → y < 3 → z < 3 → Turn c x y z
unfolding block flat_map
cell_turn c x y z hx hy hz =
    three (λ x. Turn c x y z)
    (three (λ y. Turn c 0 y z) (three (Turn c 0 0) refl refl refl z hz) (three (Turn c 0 1) refl refl refl z hz) (three (Turn c 0 2) refl refl refl z hz) y hy)
    (three (λ y. Turn c 1 y z) (three (Turn c 1 0) refl refl refl z hz) (three (Turn c 1 1) refl refl refl z hz) (three (Turn c 1 2) refl refl refl z hz) y hy)
    (three (λ y. Turn c 2 y z) (three (Turn c 2 0) refl refl refl z hz) (three (Turn c 2 1) refl refl refl z hz) (three (Turn c 2 2) refl refl refl z hz) y hy)
    x hx
