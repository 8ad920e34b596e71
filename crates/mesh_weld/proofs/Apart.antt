-- What follows from the laws of a joining rule alone: no two kept vertices join. Assumes nothing.
use Prim.Native.Nat.{ℕ, zero, suc, ◌+◌, ◌<◌}
use native.Mathlib.Decide.{dec_lt}
use native.Mathlib.Omega.{arith}
use mathlib.Core.Path.{◌≡◌, refl, subst}
use mathlib.Core.Bool.{false}
use mathlib.Core.List.{List, [], ◌∷◌, ◌++◌, map}
use Rattle.std.specs.Prelude.{Option, None, Some}
use lib.ListN.{length, get_or, length-map, length-append, get_or-append}
use lib.Seq.{get_or_at}
use Rattle.mesh_weld.specs.Joining.{Joining, Lawful}
use Rattle.mesh_weld.specs.Weld.{Welded, welding, weld_next, weld}

module _ {Vertex : Type 0} (J : Joining Vertex) (L : Lawful Vertex J) (at : ℕ → Vertex) where
  -- no vertex of the list joins an earlier one
  abbrev pub Apart : List ℕ → Type 0
  Apart l = (j k : ℕ) → j < k → k < length l → J.joins (at (get_or l k 0)) (at (get_or l j 0)) ≡ false

  get_d_map : (l : List ℕ) (d : Vertex) (j : ℕ) → j < length l → get_or (map at l) j d ≡ at (get_or l j 0)
  get_d_map [] d j h = absurd (omega arith)
  get_d_map (x ∷ l) d zero h = refl
  get_d_map (x ∷ l) d (suc j) h = get_d_map l d j (omega arith)

  one_more : (l : List ℕ) (n : ℕ) → Apart l → J.find (at n) (map at l) ≡ None → Apart (l ++ (n ∷ []))
  one_more l n a e j k jk kl = go (dec_lt k (length l))
    where
      long : k < length l + 1
      long = rw length-append at kl

      go : Dec (k < length l) → J.joins (at (get_or (l ++ (n ∷ [])) k 0)) (at (get_or (l ++ (n ∷ [])) j 0)) ≡ false
      go (yes g) =
          let jl : j < length l = omega arith in
          rw (get_or-append l (n ∷ []) 0 k g, get_or-append l (n ∷ []) 0 j jl) (a j k jk g)
      go (no g) =
          let z : length l ≡ k = omega (arith, long) in
          let jl : j < length l = omega arith in
          rw (get_or_at l n [] 0 k z, get_or-append l (n ∷ []) 0 j jl)
          (subst (λ (q : Vertex). J.joins (at n) q ≡ false) (get_d_map l (at n) j jl) (L.none (at n) (map at l) e j (rw (length-map l at) jl)))

  placed : (r : Option ℕ) (n : ℕ) (w : Welded) → Apart w.kept → J.find (at n) (map at w.kept) ≡ r → Apart (welding r n w).kept
  placed None n w a e = one_more w.kept n a e
  placed (Some k) n w a e = a

  pub kept_apart : (n : ℕ) → Apart (weld J at n).kept
  unfolding weld weld_next
  kept_apart zero = λ j k jk h. absurd (omega arith)
  kept_apart (suc n) = placed (J.find (at n) (map at (weld J at n).kept)) n (weld J at n) (kept_apart n) refl
