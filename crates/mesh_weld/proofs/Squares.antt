-- The squared distance is the same from either end, bit for bit: (p - q)² and (q - p)² are equal for all doubles, the infinities and NaN too.
use mathlib.Core.Path.{◌≡◌, refl, ap, ◌∙◌}
use mathlib.Core.Bool.{Bool, true, false, cond, not, ◌&&◌}
use mathlib.Core.Logic.{⊎_elim}
use Prim.Native.Nat.{ℕ, zero, suc, ◌+◌, ◌-◌, ◌*◌, ◌/◌, ◌%◌, ◌^◌, compare}
use native.Mathlib.Nat.{add_comm, mul_comm}
use native.Mathlib.Omega.{arith}
use lib.Dec.{ltb}
use lib.Ieee as Ieee
use lib.Ieee.{Float, nan, inf, fin, binary64, round, sum, add, sub, mul, neg, odd, size, nearest, up, down, low, emax, prec}
use borrow.Author.Tests.{ltb-true, ltb-false}
use Rattle.geometry.specs.declared.point.Point.{Point}
use Rattle.geometry.specs.Points.{difference, dot}
use Rattle.mesh_weld.specs.Cells.{near}
use Rattle.lists.proofs.Orders.{cases}

abbrev sq : Float → Float
sq x = mul binary64 x x

-- a square does not see the sign of what is rounded
sq_odd : (d : ℕ) (s t : Bool) (q k l : ℕ) → sq (odd d s q k l) ≡ sq (odd d t q k l)
unfolding odd mul
sq_odd d true true zero k l = refl
sq_odd d true false zero k l = refl
sq_odd d false true zero k l = refl
sq_odd d false false zero k l = refl
sq_odd d true true (suc q) k l = refl
sq_odd d true false (suc q) k l = refl
sq_odd d false true (suc q) k l = refl
sq_odd d false false (suc q) k l = refl

sq_cond : (b s t : Bool) (x y : Float) → sq x ≡ sq y → sq (cond b x (inf s)) ≡ sq (cond b y (inf t))
unfolding mul
sq_cond true s t x y e = e
sq_cond false true true x y e = refl
sq_cond false true false x y e = refl
sq_cond false false true x y e = refl
sq_cond false false false x y e = refl

sq_units : (s t : Bool) (q k : ℕ) → sq (Ieee.units binary64 s q k) ≡ sq (Ieee.units binary64 t q k)
unfolding Ieee.units
sq_units s t q k =
    sq_cond (ltb (q * 2 ^ k) (2 ^ (low binary64 + suc (emax binary64)))) s t (odd (suc (prec binary64)) s q k (low binary64)) (odd (suc (prec binary64)) t q k (low binary64))
    (sq_odd (suc (prec binary64)) s t q k (low binary64))

sq_round : (s t : Bool) (a c : ℕ) → sq (round binary64 s a c) ≡ sq (round binary64 t a c)
unfolding round
sq_round s t a c =
    let n = a * 2 ^ low binary64 in
    let k = size (n / c) - prec binary64 in
    let u = c * 2 ^ k in
    sq_units s t (nearest (n / u) (compare (n % u * 2) u)) k

-- a difference taken the other way round, told by which of the two is larger
module _ (a b c : ℕ) where
  abbrev way : Bool → Bool → Bool → Bool → Float
  way s u p q = cond p (round binary64 s (b - a) c) (round binary64 (u && q) (a - b) c)

  abbrev back : Bool → Bool → Bool → Bool → Float
  back s u p q = cond q (round binary64 s (a - b) c) (round binary64 (u && p) (b - a) c)

  turned : (s t u v : Bool) → sq (way s u (ltb a b) (ltb b a)) ≡ sq (back t v (ltb a b) (ltb b a))
  turned s t u v = ⊎_elim (λ p. ⊎_elim (λ q. absurd (both p q)) (λ q. less p q) (cases (ltb b a))) (λ p. ⊎_elim (λ q. more p q) (λ q. same p q) (cases (ltb b a))) (cases (ltb a b))
    where
      both : ltb a b ≡ true → ltb b a ≡ true → ⊥
      both p q = omega (arith, ltb-true a b p, ltb-true b a q)

      less : ltb a b ≡ true → ltb b a ≡ false → sq (way s u (ltb a b) (ltb b a)) ≡ sq (back t v (ltb a b) (ltb b a))
      less p q = rw (p, q) (sq_round s (v && true) (b - a) c)

      more : ltb a b ≡ false → ltb b a ≡ true → sq (way s u (ltb a b) (ltb b a)) ≡ sq (back t v (ltb a b) (ltb b a))
      more p q = rw (p, q) (sq_round (u && true) t (a - b) c)

      same : ltb a b ≡ false → ltb b a ≡ false → sq (way s u (ltb a b) (ltb b a)) ≡ sq (back t v (ltb a b) (ltb b a))
      same p q =
          let e : a - b ≡ b - a = omega (arith, ltb-false a b p, ltb-false b a q) in
          rw (p, q) (sq_round (u && false) (v && false) (a - b) c ∙ ap (λ (k : ℕ). sq (round binary64 (v && false) k c)) e)

sq_sum : (s t : Bool) (a b c : ℕ) → sq (sum binary64 s a (not t) b c) ≡ sq (sum binary64 t b (not s) a c)
unfolding sum
sq_sum false false a b c = turned a b c true true false false
sq_sum true true a b c = turned a b c false false true true
sq_sum false true a b c = sq_round false true (a + b) c ∙ ap (λ (k : ℕ). sq (round binary64 true k c)) (add_comm a b)
sq_sum true false a b c = sq_round true false (a + b) c ∙ ap (λ (k : ℕ). sq (round binary64 false k c)) (add_comm a b)

pub sq_sub : (x y : Float) → sq (sub binary64 x y) ≡ sq (sub binary64 y x)
unfolding sub add neg mul
sq_sub nan nan = refl
sq_sub nan (inf t) = refl
sq_sub nan (fin t n d) = refl
sq_sub (inf s) nan = refl
sq_sub (inf true) (inf true) = refl
sq_sub (inf true) (inf false) = refl
sq_sub (inf false) (inf true) = refl
sq_sub (inf false) (inf false) = refl
sq_sub (inf true) (fin t n d) = refl
sq_sub (inf false) (fin t n d) = refl
sq_sub (fin s m e) nan = refl
sq_sub (fin s m e) (inf true) = refl
sq_sub (fin s m e) (inf false) = refl
sq_sub (fin s m e) (fin t n d) =
    sq_sum s t (m * up e * down d) (n * up d * down e) (down e * down d)
    ∙ ap (λ (k : ℕ). sq (sum binary64 t (n * up d * down e) (not s) (m * up e * down d) k)) (mul_comm (down e) (down d))

pub near_sym : (eps : Float) (p q : Point) → near eps p q ≡ near eps q p
unfolding near difference dot
near_sym eps p q = rw (sq_sub p.x q.x, sq_sub p.y q.y, sq_sub p.z q.z)
