-- The joining rule by cells (document 01, module 4; `quantized_point_key` and `push_dedup_point` of mesh_cleanup.rs). Assumes nothing.
--   Key, key_of   a point's cell: "each coordinate divided by max(eps, 1e-12), rounded"
--   same_key      two cells are one                   around       "the 27 cells dx, dy, dz from -1 to 1 in that nesting"
--   near         "squared distance at most eps × eps"
--   in_cell       the kept vertices of a cell, "in order of entry"
--   neighbours   two cells are no further than one apart on each axis
--   cells        the rule: two points join that are near and in neighbouring cells; of the kept vertices of the 27 cells, in order, the first that is near is found,
--                which need be neither the nearest nor the lowest-numbered
use Rattle.std.specs.Prelude.{ℕ, Bool, false, ◌&&◌, ◌||◌, eqb, ℤ, pos, negsuc, length, Float}
use mathlib.Core.List.{List, [], ◌∷◌, flat_map}
use Rattle.std.proofs.Math.IntN.{suc_ℤ, pred_ℤ}
use Rattle.std.specs.Float.Ieee.{le}
use Rattle.lists.specs.Lists.{first, keep, up_to}
use Rattle.root.specs.Doubles.{◌⊗◌}
use Rattle.rounding.specs.Rounding.{key}
use Rattle.geometry.specs.declared.point.Point.{Point}
use Rattle.geometry.specs.Points.{difference, norm2}
use Rattle.geometry.specs.Meshes.{vertex}
use Rattle.mesh_weld.specs.Joining.{Joining}

pub record Key : Type 0 where
  pub x : ℤ
  pub y : ℤ
  pub z : ℤ

unfoldable pub key_of : Float → Point → Key
key_of eps p = record { x = key eps p.x; y = key eps p.y; z = key eps p.z }

abbrev pub same : ℤ → ℤ → Bool
same (pos a) (pos b) = eqb a b
same (pos a) (negsuc b) = false
same (negsuc a) (pos b) = false
same (negsuc a) (negsuc b) = eqb a b

unfoldable pub same_key : Key → Key → Bool
same_key a b = same a.x b.x && (same a.y b.y && same a.z b.z)

-- from -1 to 1
abbrev pub beside : ℤ → List ℤ
beside k = pred_ℤ k ∷ k ∷ suc_ℤ k ∷ []

unfoldable pub around : Key → List Key
around k =
    flat_map (λ x. flat_map (λ y. flat_map (λ z. record { x = x; y = y; z = z } ∷ []) (beside k.z)) (beside k.y)) (beside k.x)

unfoldable pub near : Float → Point → Point → Bool
near eps p q = le (norm2 (difference p q)) (eps ⊗ eps)

-- the kept vertices in the cell c, "in order of entry"
abbrev pub in_cell : Float → List Point → Key → List ℕ
in_cell eps kept c = keep (λ k. same_key (key_of eps (vertex kept k)) c) (up_to (length kept))

abbrev pub next_to : ℤ → ℤ → Bool
next_to a b = same b (pred_ℤ a) || (same b a || same b (suc_ℤ a))

unfoldable pub neighbours : Key → Key → Bool
neighbours a b = next_to a.x b.x && (next_to a.y b.y && next_to a.z b.z)

unfoldable pub cells : Float → Joining Point
cells eps =
    record {
      joins = λ p q. neighbours (key_of eps p) (key_of eps q) && near eps p q;
      find = λ p kept. first (λ k. near eps p (vertex kept k)) (flat_map (in_cell eps kept) (around (key_of eps p)));
    }
