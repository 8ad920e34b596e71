-- The numbers that welding gives out: each vertex has one, of a kept vertex, and the kept are vertices. For any rule whose finds are kept vertices. Assumes nothing.
use Prim.Native.Nat.{ℕ, zero, suc, ◌+◌, ◌≤◌, ◌<◌}
use native.Mathlib.Decide.{dec_lt}
use native.Mathlib.Omega.{arith}
use mathlib.Core.Path.{◌≡◌, refl, ◌∙◌}
use mathlib.Core.List.{List, [], ◌∷◌, ◌++◌, map}
use Rattle.std.specs.Prelude.{Option, None, Some}
use lib.ListN.{length, get_or, length-map, length-append, get_or-append}
use lib.Seq.{get_or_at}
use Rattle.mesh_weld.specs.Joining.{Joining, Lawful}
use Rattle.mesh_weld.specs.Weld.{Welded, welding, weld_next, weld}

-- the first n vertices, welded
pub record Numbers (n : ℕ) (w : Welded) : Type 0 where
  pub long : length w.old_to_new ≡ n
  pub few : length w.kept ≤ n
  pub low : (k : ℕ) → k < length w.kept → get_or w.kept k 0 < n
  pub number : (i : ℕ) → i < n → get_or w.old_to_new i 0 < length w.kept

snoc_long : (l : List ℕ) (x : ℕ) → length (l ++ (x ∷ [])) ≡ length l + 1
snoc_long l x = length-append l (x ∷ [])

-- an element of a list with one more at its end
snoc_at : (P : ℕ → Type 0) (l : List ℕ) (x i n : ℕ) → length l ≡ n → i < n + 1 → ((i : ℕ) → i < n → P (get_or l i 0)) → P x → P (get_or (l ++ (x ∷ [])) i 0)
snoc_at P l x i n e h f g = go (dec_lt i n)
  where
    go : Dec (i < n) → P (get_or (l ++ (x ∷ [])) i 0)
    go (yes q) = rw (get_or-append l (x ∷ []) 0 i (omega arith)) (f i q)
    go (no q) = rw (get_or_at l x [] 0 i (omega arith)) g

module _ {Vertex : Type 0} (J : Joining Vertex) (L : Lawful Vertex J) (at : ℕ → Vertex) where
  placed : (r : Option ℕ) (n : ℕ) (w : Welded) → Numbers n w → J.find (at n) (map at w.kept) ≡ r → Numbers (suc n) (welding r n w)
  placed None n w N e =
      record {
        long = snoc_long w.old_to_new (length w.kept) ∙ (let l = N.long in omega arith);
        few = rw (snoc_long w.kept n) (let f = N.few in omega arith);
        low = λ k h. snoc_at (λ x. x < suc n) w.kept n k (length w.kept) refl (rw (snoc_long w.kept n) at h) (λ i q. let l = N.low i q in omega arith) (omega arith);
        number = λ i h. snoc_at (λ x. x < length (w.kept ++ (n ∷ []))) w.old_to_new (length w.kept) i n N.long (omega arith)
            (λ j q. rw (snoc_long w.kept n) (let l = N.number j q in omega arith)) (rw (snoc_long w.kept n) (omega arith));
      }
  placed (Some k) n w N e =
      record {
        long = snoc_long w.old_to_new k ∙ (let l = N.long in omega arith);
        few = let f = N.few in omega arith;
        low = λ j h. let l = N.low j h in omega arith;
        number = λ i h. snoc_at (λ x. x < length w.kept) w.old_to_new k i n N.long (omega arith) N.number
            (let f = (L.found (at n) (map at w.kept) k e).0 in rw length-map at f);
      }

  pub weld_numbers : (n : ℕ) → Numbers n (weld J at n)
  unfolding weld weld_next
  weld_numbers zero = record { long = refl; few = omega arith; low = λ k h. absurd (omega arith); number = λ i h. absurd (omega arith) }
  weld_numbers (suc n) = placed (J.find (at n) (map at (weld J at n).kept)) n (weld J at n) (weld_numbers n) refl
