-- Laws of truth values: a chain of tests, and a choice, by the value of the first test; and a test as a fact. Assumes nothing.
use Prim.Native.Nat.{ℕ}
use mathlib.Core.Path.{◌≡◌, refl, sym, ap, ◌∙◌, subst}
use mathlib.Core.Bool.{Bool, true, false, cond, not, ◌&&◌, ◌||◌}
use native.Mathlib.Omega.{arith}
use lib.Dec.{T, eqb}
use borrow.Author.Tests.{eqb-true, eq-eqb}

-- what holds of a test that came out true, and of one that came out false, holds of every test
pub by_test : (P : Bool → Type 0) (b : Bool) → (T b → P true) → (T (not b) → P false) → P b
by_test P true f g = f tt
by_test P false f g = g tt

pub and_next : (a b c : Bool) → a ≡ true → b ≡ c → (a && b) ≡ c
and_next a b c e f = ap (λ (x : Bool). x && b) e ∙ f

pub and_stop : (a b : Bool) → a ≡ false → (a && b) ≡ false
and_stop a b e = ap (λ (x : Bool). x && b) e

pub or_next : (a b c : Bool) → a ≡ false → b ≡ c → (a || b) ≡ c
or_next a b c e f = ap (λ (x : Bool). x || b) e ∙ f

pub or_stop : (a b : Bool) → a ≡ true → (a || b) ≡ true
or_stop a b e = ap (λ (x : Bool). x || b) e

pub cond_true : {A : Type 0} (a : Bool) (x y z : A) → a ≡ true → x ≡ z → cond a x y ≡ z
cond_true a x y z e f = ap (λ (t : Bool). cond t x y) e ∙ f

pub cond_false : {A : Type 0} (a : Bool) (x y z : A) → a ≡ false → y ≡ z → cond a x y ≡ z
cond_false a x y z e f = ap (λ (t : Bool). cond t x y) e ∙ f

pub and_left : (a b : Bool) → (a && b) ≡ true → a ≡ true
and_left true b e = refl
and_left false b e = e

pub and_right : (a b : Bool) → (a && b) ≡ true → b ≡ true
and_right true b e = e
and_right false b e = absurd (let z : ◌≡◌ {A = ℕ} 0 1 = cc in omega arith)

pub or_none_left : (a b : Bool) → (a || b) ≡ false → a ≡ false
or_none_left true b e = e
or_none_left false b e = refl

pub or_none_right : (a b : Bool) → (a || b) ≡ false → b ≡ false
or_none_right true b e = absurd (let z : ◌≡◌ {A = ℕ} 0 1 = cc in omega arith)
or_none_right false b e = e

pub is_true : (b : Bool) → T b → b ≡ true
is_true true t = refl
is_true false t = absurd t

pub is_false : (b : Bool) → (T b → ⊥) → b ≡ false
is_false true f = absurd (f tt)
is_false false f = refl

pub yes : {b : Bool} → b ≡ true → T b
yes e = subst T (sym e) tt

pub both_ways : (a b : Bool) → (a ≡ true → b ≡ true) → (b ≡ true → a ≡ true) → a ≡ b
both_ways true b f g = sym (f refl)
both_ways false true f g = g refl
both_ways false false f g = refl

pub eqb_sym : (a b : ℕ) → eqb a b ≡ eqb b a
eqb_sym a b = both_ways (eqb a b) (eqb b a) (λ e. eq-eqb b a (sym (eqb-true a b e))) (λ e. eq-eqb a b (sym (eqb-true b a e)))

pub last_false : (a b c : Bool) → c ≡ false → (a || (b && c)) ≡ a
last_false true b c e = refl
last_false false true c e = e
last_false false false c e = refl
