-- From the labels as they were put to the components' numbers. Assumes nothing.
--   labelled_end      the loop that puts the labels put them all
--   caps_read, caps_asked, caps_fit   the component finder can be asked
--   joined_caps       what it leaves
--   caps_joined       and of a table that was lent
use Prim.Native.Nat.{ℕ, ◌+◌, ◌*◌, ◌-◌, ◌/◌, ◌≤◌, ◌<◌}
use native.Mathlib.Omega.{arith}
use mathlib.Core.Path.{◌≡◌, sym, ap, ◌∙◌, subst}
use mathlib.Core.Bool.{Bool, true, false, cond}
use mathlib.Core.List.{List, ◌++◌, map}
use lib.ListN.{length, get_or, take, drop, length-map}
use lib.Seq.{ext_get_or}
use Rattle.lists.specs.Lists.{up_to}
use Rattle.lists.specs.Regions.{view, Above}
use Rattle.lists.proofs.Regions.{Filled, view_length, view_at}
use Rattle.lists.proofs.Places.{length_up, at_map_up}
use Rattle.components.specs.Table.{LabelsBelow, ItemLabels, ComponentNumbers, ComponentTable}
use Rattle.components.proofs.Lent.{labels_read, labels_asked, table_fits, table_left}
use Rattle.cap_triangles.specs.Room.{labels_at, components_at}
use Rattle.cap_selection.specs.Steps.{open_in, side_number, label_in, SidesNumbered, Labelled, JoinedCaps}

module _ (n nf nc k : ℕ) (w : List ℕ) (room : SidesNumbered n nf nc k w) where
  pub labelled_end : (v : List ℕ) (labels s : ℕ) → labels ≡ labels_at n nf nc → 3 * nc ≤ s → s ≤ 3 * nc → Filled (label_in n nf nc k w) w v labels s → Labelled n nf nc k w v
  labelled_end v labels s e h g f =
      record {
        above = record { long = f.long; below = λ x l. f.rest x (λ j b q. omega arith) };
        label = λ t l. ap (λ (x : ℕ). get_or v (x + t) 0) (sym e) ∙ f.at t (omega arith);
      }

  -- what was put so far stands behind what is read
  pub labels_above : (v : List ℕ) (labels s : ℕ) → labels ≡ labels_at n nf nc → Filled (label_in n nf nc k w) w v labels s → Above (labels_at n nf nc) w v
  labels_above v labels s e f = record { long = f.long; below = λ x l. f.rest x (λ j b q. omega arith) }

  label_low : (s : ℕ) → s < 3 * nc → label_in n nf nc k w s < k + 6 * nc
  unfolding label_in
  label_low s h = go (open_in n nf nc w (side_number n nf nc k w s))
    where
      go : (b : Bool) → cond b (k + 3 * nc + s) (side_number n nf nc k w s) < k + 6 * nc
      go true = omega arith
      go false = let l = room.low s h in omega arith

  module _ (v : List ℕ) (put : Labelled n nf nc k w v) where
    fits : labels_at n nf nc + nc * 3 ≤ length v
    fits = let z = room.size in let g = put.above.long in omega arith

    stands : (t : ℕ) → t < nc * 3 → get_or (view v (labels_at n nf nc) (nc * 3)) t 0 ≡ label_in n nf nc k w t
    stands t h = view_at v (labels_at n nf nc) (nc * 3) t h ∙ put.label t (omega arith)

    labels_low : LabelsBelow (view v (labels_at n nf nc) (nc * 3)) (k + 6 * nc)
    labels_low t h =
        let l = view_length v (labels_at n nf nc) (nc * 3) fits in
        let q = stands t (omega arith) in
        let low = label_low t (omega arith) in
        omega arith

    table_in : components_at n nf nc + nc + nc + (k + 6 * nc) ≤ length v
    table_in = omega (arith, room.size, put.above.long, room.edges)

    pub caps_read : (front : List ℕ) (from at : ℕ) → from ≡ labels_at n nf nc → at ≡ components_at n nf nc → front ≡ take at v
        → take (from + 3 * nc - from) (drop from front) ≡ view v (labels_at n nf nc) (nc * 3)
    caps_read front from at e d f =
        rw e (labels_read v (labels_at n nf nc) nc 3 (k + 6 * nc) (components_at n nf nc) (omega arith) (omega arith) table_in labels_low front (3 * nc)
        (f ∙ ap (λ (x : ℕ). take x v) d) (omega arith))

    module _ (labels : List ℕ) (e : labels ≡ view v (labels_at n nf nc) (nc * 3)) where
      pub caps_asked : ItemLabels labels (length labels / 3) 3 (k + 6 * nc)
      caps_asked = labels_asked v (labels_at n nf nc) nc 3 (k + 6 * nc) (components_at n nf nc) (omega arith) (omega arith) table_in labels_low labels e

      pub caps_fit : (old : List ℕ) (at : ℕ) → at ≡ components_at n nf nc → old ≡ drop at v → length labels / 3 + length labels / 3 + (k + 6 * nc) ≤ length old
      caps_fit old at d f =
          table_fits v (labels_at n nf nc) nc 3 (k + 6 * nc) (components_at n nf nc) (omega arith) (omega arith) table_in labels_low labels e old
          (f ∙ ap (λ (x : ℕ). drop x v) d)

    labels_are : view v (labels_at n nf nc) (nc * 3) ≡ map (label_in n nf nc k w) (up_to (3 * nc))
    labels_are =
        let l = view_length v (labels_at n nf nc) (nc * 3) fits in
        let m = length-map (up_to (3 * nc)) (label_in n nf nc k w) ∙ length_up 0 (3 * nc) in
        ext_get_or 0 (view v (labels_at n nf nc) (nc * 3)) (map (label_in n nf nc k w) (up_to (3 * nc))) (omega arith)
        (λ t h.
        let z : 0 + t ≡ t = omega arith in
        stands t (omega arith) ∙ sym (at_map_up (label_in n nf nc k w) 0 0 (3 * nc) t (omega arith) ∙ ap (label_in n nf nc k w) z))

    joined_here : (u : List ℕ) → ComponentTable (view v (labels_at n nf nc) (nc * 3)) nc 3 (k + 6 * nc) (components_at n nf nc) v u → JoinedCaps n nf nc k w u
    joined_here u t =
        record {
          above = record { long = t.long ∙ put.above.long; below = λ x h. t.rest x (λ i a q. omega arith) ∙ put.above.below x h };
          numbers = subst (λ (l : List ℕ). ComponentNumbers l nc 3 (view u (components_at n nf nc) nc)) labels_are t.numbers;
        }

    pub joined_caps : (labels at : ℕ) → labels ≡ labels_at n nf nc → at ≡ components_at n nf nc → (u : List ℕ)
        → ComponentTable (view v labels (nc * 3)) nc 3 (k + 6 * nc) at v u → JoinedCaps n nf nc k w u
    joined_caps labels at e f u t =
        joined_here u
        (subst (λ (x : ℕ). ComponentTable (view v (labels_at n nf nc) (nc * 3)) nc 3 (k + 6 * nc) x v u) f
        (subst (λ (x : ℕ). ComponentTable (view v x (nc * 3)) nc 3 (k + 6 * nc) at v u) e t))

    pub caps_joined : (labels : List ℕ) → labels ≡ view v (labels_at n nf nc) (nc * 3) → (front old u : List ℕ) (at : ℕ) → at ≡ components_at n nf nc → front ≡ take at v
        → old ≡ drop at v → ComponentTable labels (length labels / 3) 3 (k + 6 * nc) 0 old u → JoinedCaps n nf nc k w (front ++ u)
    caps_joined labels e front old u at d f g t =
        joined_here (front ++ u)
        (table_left v (labels_at n nf nc) nc 3 (k + 6 * nc) (components_at n nf nc) (omega arith) (omega arith) table_in labels_low labels e front old u
        (f ∙ ap (λ (x : ℕ). take x v) d) (g ∙ ap (λ (x : ℕ). drop x v) d) t)
