-- The sides of a flat list of facets, by their numbers. Assumes nothing.
--   next_in          the next side is one of the same list
--   length_sides     three sides a facet
--   side_at_lem          side s runs from the corner at s to the corner at the next side
--   sides_small      corners below 2^32 make ends below 2^32
use Prim.Native.Nat.{ℕ, zero, suc, ◌+◌, ◌-◌, ◌%◌, ◌<◌}
use mathlib.Core.List.{List, [], ◌∷◌, flat_map}
use mathlib.Core.Logic.{◌⊎◌, inl, inr, ⊎_elim}
use mathlib.Core.Path.{◌≡◌, refl, sym, ap, ◌∙◌}
use native.Mathlib.Omega.{arith}
use borrow.Author.Tests.{eqb-true, eqb-false, eq-eqb, ne_eqb}
use lib.Dec.{eqb}
use lib.ListN.{length, get_or}
use Rattle.lists.proofs.Orders.{cases}
use Rattle.geometry.specs.Triangles.{threes}
use Rattle.edges.specs.Edges.{sides}
use Rattle.edges.specs.Table.{next_side}

-- ---- the next side
pub next_wrap : (s : ℕ) → s % 3 ≡ 2 → next_side s ≡ s - 2
next_wrap s e = rw (eq-eqb (s % 3) 2 e)

pub next_on : (s : ℕ) → (s % 3 ≡ 2 → ⊥) → next_side s ≡ s + 1
next_on s n = rw (ne_eqb (s % 3) 2 n)

last_or_not : (s : ℕ) → (s % 3 ≡ 2) ⊎ (s % 3 ≡ 2 → ⊥)
last_or_not s = ⊎_elim (λ e. inl (eqb-true (s % 3) 2 e)) (λ e. inr (eqb-false (s % 3) 2 e)) (cases (eqb (s % 3) 2))

pub next_in : (n s : ℕ) → n % 3 ≡ 0 → s < n → next_side s < n
next_in n s e h =
    ⊎_elim (λ (l : s % 3 ≡ 2). let q = next_wrap s l in omega arith) (λ (l : s % 3 ≡ 2 → ⊥). let q = next_on s l in omega arith) (last_or_not s)

next_later : (s : ℕ) → next_side (suc (suc (suc s))) ≡ suc (suc (suc (next_side s)))
next_later s =
    ⊎_elim (λ (l : s % 3 ≡ 2). let q = next_wrap s l in next_wrap (suc (suc (suc s))) (omega arith) ∙ omega arith)
    (λ (l : s % 3 ≡ 2 → ⊥). let q = next_on s l in next_on (suc (suc (suc s))) (λ e. l (omega arith)) ∙ omega arith)
    (last_or_not s)

-- ---- a side by its number
fewer : (n : ℕ) → suc (suc (suc n)) % 3 ≡ 0 → n % 3 ≡ 0
fewer n e = omega arith

pub length_sides : (f : List ℕ) → length f % 3 ≡ 0 → length (sides (threes f)) ≡ length f
unfolding threes flat_map
length_sides [] e = refl
length_sides (a ∷ []) e = absurd (omega arith)
length_sides (a ∷ b ∷ []) e = absurd (omega arith)
length_sides (a ∷ b ∷ c ∷ f) e = ap (λ (n : ℕ). suc (suc (suc n))) (length_sides f (fewer (length f) e))

pub side_at_lem : (f : List ℕ) (s : ℕ) → length f % 3 ≡ 0 → s < length f → get_or (sides (threes f)) s (0, 0) ≡ (get_or f s 0, get_or f (next_side s) 0)
unfolding threes flat_map
side_at_lem [] s e h = absurd (omega arith)
side_at_lem (a ∷ []) s e h = absurd (omega arith)
side_at_lem (a ∷ b ∷ []) s e h = absurd (omega arith)
side_at_lem (a ∷ b ∷ c ∷ f) zero e h = refl
side_at_lem (a ∷ b ∷ c ∷ f) (suc zero) e h = refl
side_at_lem (a ∷ b ∷ c ∷ f) (suc (suc zero)) e h = refl
side_at_lem (a ∷ b ∷ c ∷ f) (suc (suc (suc s))) e h =
    side_at_lem f s (fewer (length f) e) (omega arith)
    ∙ (λ t. (get_or f s 0, get_or (a ∷ b ∷ c ∷ f) (sym (next_later s) t) 0))

-- ---- ends that a word holds two of
abbrev pub Small : ℕ × ℕ → Type 0
Small s = (s.0 < 4294967296) × (s.1 < 4294967296)

pub sides_small : (f : List ℕ) → length f % 3 ≡ 0 → ((i : ℕ) → get_or f i 0 < 4294967296) → (s : ℕ) → Small (get_or (sides (threes f)) s (0, 0))
unfolding threes flat_map
sides_small [] e b s = (omega arith, omega arith)
sides_small (a ∷ []) e b s = absurd (omega arith)
sides_small (a ∷ c ∷ []) e b s = absurd (omega arith)
sides_small (a ∷ c ∷ d ∷ f) e b zero = (b 0, b 1)
sides_small (a ∷ c ∷ d ∷ f) e b (suc zero) = (b 1, b 2)
sides_small (a ∷ c ∷ d ∷ f) e b (suc (suc zero)) = (b 2, b 0)
sides_small (a ∷ c ∷ d ∷ f) e b (suc (suc (suc s))) = sides_small f (fewer (length f) e) (λ i. b (suc (suc (suc i)))) s
