-- Laws of the hash: what is congruent has the same bucket, a bucket is one of those there are, and the form of a neighbouring key is one addition away.
use Prim.Native.Nat.{ℕ, ◌+◌, ◌*◌, ◌/◌, ◌%◌, ◌^◌, ◌≤◌, ◌<◌}
use native.Mathlib.Nat.{mul-le-mul, add-mul-mod_self_right, div-lt_iff_lt-mul}
use native.Mathlib.Omega.{arith}
use mathlib.Core.Path.{◌≡◌, sym, ap, ◌∙◌}
use Rattle.chains.specs.Hash.{prime, factor_a, factor_b, factor_c, mixed, bucket_at, Mixes, InBucket}

pub mixes_mix : (a b c : ℕ) → Mixes a b c (a % 4294967291 * 561705629 + b % 4294967291 * 816622479 + c % 4294967291 * 167066315)
mixes_mix a b c = record { congruent = sym (ap (λ (k : ℕ). k % 4294967291) (split a b c) ∙ add-mul-mod_self_right (rests a b c) (wholes a b c) 4294967291); low = omega arith }
  where
    rests : ℕ → ℕ → ℕ → ℕ
    rests x y z = x % 4294967291 * 561705629 + y % 4294967291 * 816622479 + z % 4294967291 * 167066315

    wholes : ℕ → ℕ → ℕ → ℕ
    wholes x y z = x / 4294967291 * 561705629 + y / 4294967291 * 816622479 + z / 4294967291 * 167066315

    split : (x y z : ℕ) → x * 561705629 + y * 816622479 + z * 167066315 ≡ rests x y z + wholes x y z * 4294967291
    split x y z = omega arith

module _ (s nb : ℕ) (some : 0 < nb) (small : nb ≤ 4294967296) where
  rest : s % 4294967291 ≤ 4294967290
  rest = omega arith

  pub product_low : s % 4294967291 * nb < 2 ^ 64
  product_low = omega (arith, mul-le-mul rest small)

  pub bucket_low : bucket_at s nb < nb
  bucket_low = (div-lt_iff_lt-mul {k = 4294967296} (omega arith)).1 (under (s % 4294967291) nb rest some)
    where
      le_self : (b : ℕ) → b ≤ b
      le_self b = omega arith

      under : (a b : ℕ) → a ≤ 4294967290 → 0 < b → a * b < b * 4294967296
      under a b h p = omega (arith, mul-le-mul h (le_self b))

-- congruent forms have one bucket
pub bucket_same : (a b c s nb r : ℕ) → s % prime ≡ mixed a b c % prime → InBucket s nb r → InBucket (mixed a b c) nb r
bucket_same a b c s nb r e h = record { is = h.is ∙ ap (λ (k : ℕ). k * nb / 4294967296) e; low = h.low }

-- the form of the key one up in a word is that word's factor more
pub mixed_up : (a b c s d : ℕ) → s % prime ≡ mixed a b c % prime → (s + d) % prime ≡ (mixed a b c + d) % prime
mixed_up a b c s d e = omega arith

pub mixed_up_a : (a b c : ℕ) → mixed (a + 1) b c ≡ mixed a b c + factor_a
mixed_up_a a b c = omega arith

pub mixed_up_b : (a b c : ℕ) → mixed a (b + 1) c ≡ mixed a b c + factor_b
mixed_up_b a b c = omega arith

pub mixed_up_c : (a b c : ℕ) → mixed a b (c + 1) ≡ mixed a b c + factor_c
mixed_up_c a b c = omega arith
