-- Laws of test 6 and of G: what the counts of a cut grid are, and that no product of two wraps. Assumes nothing.
use Prim.Native.Nat.{ℕ, ◌+◌, ◌*◌, ◌≤◌, min}
use native.Mathlib.Omega.{arith}
use mathlib.Core.Path.{◌≡◌, refl, sym, ap, ◌∙◌}
use mathlib.Core.Bool.{Bool, true, false, cond, ◌||◌}
use native.Mathlib.Nat.{mul-le-mul}
use lib.Dec.{ltb}
use borrow.Author.Tests.{ltb-false}
use Rattle.lists.proofs.Bools.{or_none_left, or_none_right}
use lib.Ieee.{Float}
use Rattle.std.specs.Prelude.{None, Some}
use Rattle.std.proofs.lemmas.Option.{none-some, same_Some}
use Rattle.rounding.specs.Rounding.{at_most_256}
use Rattle.geometry.specs.declared.aabb.AABB.{AABB}
use Rattle.geometry.specs.Axes.{segments, grid_size}
use Rattle.input_tests.specs.Front.{grid_too_fine}

-- ---- a count that is at most 256

pub few_some : (n x : ℕ) → Some x ≡ at_most_256 n → (x ≡ n) × (ltb 256 n ≡ false)
few_some n x e = go (ltb 256 n) refl e
  where
    go : (b : Bool) → ltb 256 n ≡ b → Some x ≡ cond b None (Some n) → (x ≡ n) × (ltb 256 n ≡ false)
    go true t k = absurd (none-some x (sym k))
    go false t k = (same_Some x n k, t)

pub few_none : (n : ℕ) → None ≡ at_most_256 n → ltb 256 n ≡ true
few_none n e = go (ltb 256 n) refl e
  where
    go : (b : Bool) → ltb 256 n ≡ b → None ≡ cond b None (Some n) → ltb 256 n ≡ true
    go true t k = t
    go false t k = absurd (none-some n k)

-- and one that is cut at 257
pub cut_is : (n s : ℕ) → n ≡ min s 257 → s ≤ 256 → n ≡ s
cut_is n s e h = e ∙ omega arith

-- no product of two counts wraps
pub small_product : (n m : ℕ) → n ≤ 258 → m ≤ 258 → n * m ≤ 66564
small_product n m h k = mul-le-mul h k

pub size_is : (b : AABB) (eps : Float) (resolution : ℕ → Float) (x y z : ℕ) → x ≡ segments b eps resolution 0 → y ≡ segments b eps resolution 1 → z ≡ segments b eps resolution 2
    → 2 * ((x + 1) * (y + 1) + (x + 1) * (z + 1) + (y + 1) * (z + 1)) ≡ grid_size b eps resolution
unfolding grid_size
size_is b eps resolution x y z ex ey ez = cc

-- ---- whether one of the three axes is over 256

module _ (b : AABB) (eps : Float) (resolution : ℕ → Float) where
  abbrev over : ℕ → Bool
  over k = ltb 256 (segments b eps resolution k)

  pub over_x : over 0 ≡ true → grid_too_fine b eps resolution ≡ true
  unfolding grid_too_fine
  over_x e = ap (λ (t : Bool). t || (over 1 || (over 2 || false))) e

  pub over_y : over 0 ≡ false → over 1 ≡ true → grid_too_fine b eps resolution ≡ true
  unfolding grid_too_fine
  over_y d e = λ i. d i || (e i || (over 2 || false))

  pub over_z : over 0 ≡ false → over 1 ≡ false → over 2 ≡ true → grid_too_fine b eps resolution ≡ true
  unfolding grid_too_fine
  over_z c d e = λ i. c i || (d i || (e i || false))

  pub over_none : over 0 ≡ false → over 1 ≡ false → over 2 ≡ false → grid_too_fine b eps resolution ≡ false
  unfolding grid_too_fine
  over_none c d e = λ i. c i || (d i || (e i || false))

pub record NotTooFine (b : AABB) (eps : Float) (resolution : ℕ → Float) : Type 0 where
  pub x : segments b eps resolution 0 ≤ 256
  pub y : segments b eps resolution 1 ≤ 256
  pub z : segments b eps resolution 2 ≤ 256

pub not_too_fine : (b : AABB) (eps : Float) (resolution : ℕ → Float) → grid_too_fine b eps resolution ≡ false → NotTooFine b eps resolution
unfolding grid_too_fine
not_too_fine b eps resolution e =
    let s0 = segments b eps resolution 0 in
    let s1 = segments b eps resolution 1 in
    let s2 = segments b eps resolution 2 in
    let rest = or_none_right (ltb 256 s0) (ltb 256 s1 || (ltb 256 s2 || false)) e in
    let last = or_none_right (ltb 256 s1) (ltb 256 s2 || false) rest in
    record {
      x = ltb-false 256 s0 (or_none_left (ltb 256 s0) (ltb 256 s1 || (ltb 256 s2 || false)) e);
      y = ltb-false 256 s1 (or_none_left (ltb 256 s1) (ltb 256 s2 || false) rest);
      z = ltb-false 256 s2 (or_none_left (ltb 256 s2) false last);
    }
