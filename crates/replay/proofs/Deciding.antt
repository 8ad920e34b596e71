-- Laws of `Decides`, and of tests of each word of a part of a list. Assumes nothing.
--   refuted               a fact that does not hold
--   clash                 no Bool is both true and false
--   ends, both            a test of a fact of the same truth; two tests
--   each_of, each_in, part_each   a fact of each word of a part, said of the part and of the list
use Prim.Native.Nat.{ℕ, ◌+◌, ◌-◌, ◌≤◌, ◌<◌}
use mathlib.Core.Path.{◌≡◌, sym, subst, ◌∙◌}
use mathlib.Core.List.{List}
use lib.ListN.{length, get_or, take, drop}
use Rattle.lists.proofs.Regions.{view_length, view_at}
use mathlib.Core.Bool.{Bool, true, false, ◌&&◌}
use native.Mathlib.Omega.{arith}
use Rattle.lists.specs.Lists.{Decides}
use Rattle.replay.specs.Words.{Everywhere}

pub refuted : {P : Type 0} → (P → ⊥) → Decides P false
refuted never = record { sound = λ t. absurd t; complete = λ p. absurd (never p) }

pub clash : {X : Type 0} {b : Bool} → b ≡ true → b ≡ false → X
clash t f = absurd (let z : ◌≡◌ {A = ℕ} 0 1 = cc in omega arith)

pub ends : {P : Type 0} (Q : Type 0) {b : Bool} → Decides P b → (P → Q) → (Q → P) → Decides Q b
ends Q d f g = record { sound = λ t. f (d.sound t); complete = λ q. d.complete (g q) }

-- each word of a part of a list, lent from `from` to `to`: said of the part, and of the list
module _ (P : ℕ → Type 0) (s : List ℕ) (from to n : ℕ) (e : to - from ≡ n) (fits : from + n ≤ length s) where
  abbrev lent : List ℕ
  lent = take (to - from) (drop from s)

  as_long : length lent ≡ n
  as_long = view_length s from (to - from) (omega arith) ∙ e

  pub each_of : Everywhere (λ k. P (get_or lent k 0)) (length lent) → Everywhere (λ k. P (get_or s (from + k) 0)) n
  each_of h k l = subst P (view_at s from (to - from) k (omega arith)) (h k (omega (arith, as_long)))

  pub each_in : Everywhere (λ k. P (get_or s (from + k) 0)) n → Everywhere (λ k. P (get_or lent k 0)) (length lent)
  each_in h k l = let m : k < n = omega (arith, as_long) in subst P (sym (view_at s from (to - from) k (omega arith))) (h k m)

  pub part_each : {b : Bool} → Decides (Everywhere (λ k. P (get_or lent k 0)) (length lent)) b → Decides (Everywhere (λ k. P (get_or s (from + k) 0)) n) b
  part_each d = ends (Everywhere (λ k. P (get_or s (from + k) 0)) n) d each_of each_in

-- two tests, and both
pub both : {P Q : Type 0} {a b : Bool} → Decides P a → Decides Q b → Decides (P × Q) (a && b)
both {a = true} {b = true} d e = record { sound = λ t. (d.sound t, e.sound t); complete = λ p. tt }
both {a = true} {b = false} d e = record { sound = λ t. absurd t; complete = λ p. e.complete p.1 }
both {a = false} d e = record { sound = λ t. absurd t; complete = λ p. d.complete p.0 }
