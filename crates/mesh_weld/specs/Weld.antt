-- Welding, over any joining rule (document 01, module 4; the loop over `push_dedup_point` in mesh_cleanup.rs): each vertex in turn is taken for a kept one, or is kept. Assumes nothing.
--   Welded           the kept vertices by their old numbers, in order of entry; and each old vertex's new number, the Rust's `old_to_new`
--   welding r i w    vertex i after w, by the answer r of its search among the kept: "only kept vertices are entered"
--   weld J at n      the first n vertices welded, where vertex i is `at i`
use Rattle.std.specs.Prelude.{ℕ, zero, suc, List, [], ◌∷◌, ◌++◌, map, length, Option, None, Some}
use Rattle.mesh_weld.specs.Joining.{Joining}

pub record Welded : Type 0 where
  pub kept : List ℕ
  pub old_to_new : List ℕ

abbrev pub welding : Option ℕ → ℕ → Welded → Welded
welding None i w = record { kept = w.kept ++ (i ∷ []); old_to_new = w.old_to_new ++ (length w.kept ∷ []) }
welding (Some k) i w = record { kept = w.kept; old_to_new = w.old_to_new ++ (k ∷ []) }

unfoldable pub weld_next : {Vertex : Type 0} → Joining Vertex → (ℕ → Vertex) → ℕ → Welded → Welded
weld_next J at i w = welding (J.find (at i) (map at w.kept)) i w

unfoldable pub weld : {Vertex : Type 0} → Joining Vertex → (ℕ → Vertex) → ℕ → Welded
weld J at zero = record { kept = []; old_to_new = [] }
weld J at (suc i) = weld_next J at i (weld J at i)
