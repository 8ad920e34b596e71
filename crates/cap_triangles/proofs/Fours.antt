-- Laws of a flat list taken as cap triangles, four words each. Assumes nothing.
--   caps_length    how many they are
--   cap_at_lem         the i-th, by its four words
--   outward_at     the i-th, turned outward
use Prim.Native.Nat.{ℕ, zero, suc, ◌+◌, ◌*◌, ◌/◌, ◌<◌}
use mathlib.Core.Path.{◌≡◌, refl, ◌∙◌}
use mathlib.Core.List.{List, [], ◌∷◌}
use native.Mathlib.Omega.{arith}
use lib.ListN.{length, get_or}
use Rattle.lists.proofs.Sequences.{at_map}
use Rattle.geometry.specs.Triangles.{tri}
use Rattle.candidate_pool.specs.Pool.{Pool}
use Rattle.cap_triangles.specs.Selection.{Cap, cap, caps_of, cap_at, outward, outward_caps}

pub caps_length : (l : List ℕ) → length (caps_of l) ≡ length l / 4
unfolding caps_of
caps_length [] = refl
caps_length (f ∷ []) = refl
caps_length (f ∷ a ∷ []) = refl
caps_length (f ∷ a ∷ b ∷ []) = refl
caps_length (f ∷ a ∷ b ∷ c ∷ l) = omega (arith, caps_length l)

abbrev four_at : List ℕ → ℕ → Cap
four_at l i = cap (get_or l (4 * i) 0) (tri (get_or l (4 * i + 1) 0) (get_or l (4 * i + 2) 0) (get_or l (4 * i + 3) 0))

four_at_lem : (l : List ℕ) (i : ℕ) → 4 * i + 3 < length l → cap_at (caps_of l) i ≡ four_at l i
unfolding caps_of
four_at_lem [] i h = absurd (omega arith)
four_at_lem (f ∷ []) i h = absurd (omega arith)
four_at_lem (f ∷ a ∷ []) i h = absurd (omega arith)
four_at_lem (f ∷ a ∷ b ∷ []) i h = absurd (omega arith)
four_at_lem (f ∷ a ∷ b ∷ c ∷ l) zero h = refl
four_at_lem (f ∷ a ∷ b ∷ c ∷ l) (suc i) h =
    let x : suc (suc (suc (suc (4 * i)))) ≡ 4 * suc i = omega arith in
    let y : suc (suc (suc (suc (4 * i + 1)))) ≡ 4 * suc i + 1 = omega arith in
    let z : suc (suc (suc (suc (4 * i + 2)))) ≡ 4 * suc i + 2 = omega arith in
    let u : suc (suc (suc (suc (4 * i + 3)))) ≡ 4 * suc i + 3 = omega arith in
    let m = f ∷ a ∷ b ∷ c ∷ l in
    four_at_lem l i (omega arith) ∙ (λ t. cap (get_or m (x t) 0) (tri (get_or m (y t) 0) (get_or m (z t) 0) (get_or m (u t) 0)))

pub cap_at_lem : (l : List ℕ) (i : ℕ) → i < length l / 4
    → cap_at (caps_of l) i ≡ cap (get_or l (4 * i) 0) (tri (get_or l (4 * i + 1) 0) (get_or l (4 * i + 2) 0) (get_or l (4 * i + 3) 0))
cap_at_lem l i h = four_at_lem l i (omega arith)

pub outward_at : (pool : Pool) (caps : List Cap) (i : ℕ) → i < length caps → cap_at (outward_caps pool caps) i ≡ outward pool (cap_at caps i)
outward_at pool caps i h = at_map (outward pool) caps i (cap 0 (tri 0 0 0)) (cap 0 (tri 0 0 0)) h
