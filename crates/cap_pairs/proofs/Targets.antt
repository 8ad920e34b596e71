-- Which words note_edges and note_sides write: the loops' turns. Assumes nothing.
--   by_way                                         what holds of either table holds of the one for an edge's way
--   target_high, target_low, target_zero           the word of open edge j: in a table behind the numbers, and 0 at first
--   edges_below                                    what stands before the tables is as it was
--   note_edge_asks, note_edge_turn                 one open edge
--   note_side_asks, note_side_turn                 one side
use Prim.Native.Nat.{ℕ, ◌+◌, ◌*◌, ◌/◌, ◌≤◌, ◌<◌}
use mathlib.Core.Bool.{Bool, true, false, cond}
use mathlib.Core.List.{List}
use mathlib.Core.Path.{◌≡◌, sym, ap, subst, ◌∙◌}
use native.Mathlib.Omega.{arith}
use lib.Dec.{eqb, ltb}
use lib.ListN.{length, get_or}
use Rattle.box_faces.specs.Faces.{has_bit}
use Rattle.cap_triangles.specs.Room.{numbers_at, up_at, down_at, held_at}
use Rattle.cap_pairs.specs.Steps.{Added, Noted, edge_mask, edge_target, side_target, side_face, TablesFor}
use Rattle.cap_pairs.proofs.Adding.{noted_turn}
use Rattle.candidate_pool.specs.Offsets.{open_edges_at}

pub by_way : (P : ℕ → Type 0) (b : Bool) (u d : ℕ) → P u → P d → P (cond b u d)
by_way P true u d x y = x
by_way P false u d x y = y

abbrev first_at : ℕ → ℕ → ℕ → ℕ
first_at n nf j = open_edges_at n nf + 3 * j

pub small_fits : (x : ℕ) → x * 8 < 18446744073709551616 → x < 18446744073709551616
small_fits x h = omega arith

-- where open edge i and its number stand, in numbers that fit a word
module _ (n nf nc k : ℕ) (w₀ w : List ℕ) (tables : TablesFor n nf nc w₀ k) (long : length w ≡ length w₀) (edges numbers i : ℕ) (e : edges ≡ open_edges_at n nf)
    (m : numbers ≡ numbers_at n nf nc)
    (h : i < k) where
  pub three_fits : 3 * i < 18446744073709551616
  three_fits = omega (arith, tables.few, tables.edges)

  pub edge_fits : edges + 3 * i < 18446744073709551616
  edge_fits = omega (arith, tables.few, tables.small, tables.edges)

  pub edge_in_lem : edges + 3 * i + 2 < length w
  edge_in_lem = omega (arith, tables.size, tables.edges)

  pub mask_fits : (edges + 3 * i + 2) * 8 < 18446744073709551616
  mask_fits = omega (arith, tables.few, tables.small, tables.edges)

  pub edge_in_1 : edges + 3 * i + 1 < length w
  edge_in_1 = omega (arith, tables.size, tables.edges)

  pub number_in : numbers + i < length w
  number_in = omega (arith, tables.size, tables.edges)

  pub number_fits : (numbers + i) * 8 < 18446744073709551616
  number_fits = omega (arith, tables.few, tables.small, tables.caps, tables.edges)

module _ (n nf nc k : ℕ) (w₀ : List ℕ) (tables : TablesFor n nf nc w₀ k) (low : (i : ℕ) → i < k → get_or w₀ (numbers_at n nf nc + i) 0 < k + 3 * nc)
    (zeros : (r : ℕ) → r < k + 3 * nc → (get_or w₀ (up_at n nf nc + r) 0 ≡ 0) × (get_or w₀ (down_at n nf nc + r) 0 ≡ 0)) where
  abbrev way : ℕ → Bool
  way j = ltb (get_or w₀ (first_at n nf j) 0) (get_or w₀ (first_at n nf j + 1) 0)

  abbrev number : ℕ → ℕ
  number j = get_or w₀ (numbers_at n nf nc + j) 0

  pub target_high : (j : ℕ) → up_at n nf nc ≤ edge_target n nf nc w₀ j
  target_high j = by_way (λ x. up_at n nf nc ≤ x + number j) (way j) (up_at n nf nc) (down_at n nf nc) (omega arith) (omega arith)

  pub target_low : (j : ℕ) → j < k → edge_target n nf nc w₀ j < held_at n nf nc
  target_low j h =
      let l = low j h in
      let e = tables.edges in
      by_way (λ x. x + number j < held_at n nf nc) (way j) (up_at n nf nc) (down_at n nf nc) (omega arith) (omega arith)

  pub target_zero : (j : ℕ) → j < k → get_or w₀ (edge_target n nf nc w₀ j) 0 ≡ 0
  target_zero j h =
      by_way (λ x. get_or w₀ (x + number j) 0 ≡ 0) (way j) (up_at n nf nc) (down_at n nf nc) (zeros (number j) (low j h)).0 (zeros (number j) (low j h)).1

  module _ (w : List ℕ) (i : ℕ) (inv : Noted (edge_target n nf nc w₀) (λ j. has_bit (edge_mask n nf nc w₀ j)) w₀ w i) where
    pub edges_below : (x : ℕ) → x < up_at n nf nc → get_or w x 0 ≡ get_or w₀ x 0
    edges_below x h = inv.rest x (λ j l e. let t = target_high j in omega arith)

    module _ (edges numbers up down : ℕ) (e : edges ≡ open_edges_at n nf) (m : numbers ≡ numbers_at n nf nc) (u : up ≡ up_at n nf nc) (d : down ≡ down_at n nf nc) (h : i < k)
        (table pair : ℕ) (t : table ≡ cond (ltb (get_or w (edges + 3 * i) 0) (get_or w (edges + 3 * i + 1) 0)) up down) (p : pair ≡ get_or w (numbers + i) 0) where
      from_is : get_or w (edges + 3 * i) 0 ≡ get_or w₀ (first_at n nf i) 0
      from_is = ap (λ (x : ℕ). get_or w (x + 3 * i) 0) e ∙ edges_below (first_at n nf i) (omega (arith, tables.edges))

      to_is : get_or w (edges + 3 * i + 1) 0 ≡ get_or w₀ (first_at n nf i + 1) 0
      to_is = ap (λ (x : ℕ). get_or w (x + 3 * i + 1) 0) e ∙ edges_below (first_at n nf i + 1) (omega (arith, tables.edges))

      mask_is : get_or w (edges + 3 * i + 2) 0 ≡ get_or w₀ (first_at n nf i + 2) 0
      mask_is = ap (λ (x : ℕ). get_or w (x + 3 * i + 2) 0) e ∙ edges_below (first_at n nf i + 2) (omega (arith, tables.edges))

      pair_is : pair ≡ number i
      pair_is = p ∙ ap (λ (x : ℕ). get_or w (x + i) 0) m ∙ edges_below (numbers_at n nf nc + i) (omega (arith, tables.edges))

      table_is : table ≡ cond (way i) (up_at n nf nc) (down_at n nf nc)
      table_is = t ∙ (λ s. cond (ltb (from_is s) (to_is s)) (u s) (d s))

      target_is : table + pair ≡ edge_target n nf nc w₀ i
      target_is = λ s. table_is s + pair_is s

      pub note_edge_asks : (table + pair < length w) × (get_or w (table + pair) 0 < 64)
      note_edge_asks = (
        let a = target_low i h in let b = target_is in omega (arith, tables.size, inv.long),
        subst (λ (x : ℕ). get_or w x 0 < 64) (sym target_is) (inv.small (edge_target n nf nc w₀ i) (target_zero i h)),
      )

      pub note_edge_turn : (mask : ℕ) (v : List ℕ) → mask ≡ cond (eqb (get_or w (edges + 3 * i) 0) (get_or w (edges + 3 * i + 1) 0)) 0 (get_or w (edges + 3 * i + 2) 0)
          → Added w v (table + pair) (has_bit mask) → Noted (edge_target n nf nc w₀) (λ j. has_bit (edge_mask n nf nc w₀ j)) w₀ v (i + 1)
      note_edge_turn mask v q a =
          noted_turn (edge_target n nf nc w₀) (λ j. has_bit (edge_mask n nf nc w₀ j)) w₀ w i inv v (target_zero i h)
          (subst (λ (x : ℕ). Added w v x (has_bit (edge_mask n nf nc w₀ i))) target_is
          (subst (λ (x : ℕ). Added w v (table + pair) (has_bit x)) (q ∙ (λ s. cond (eqb (from_is s) (to_is s)) 0 (mask_is s))) a))

-- ---- sides
module _ (n nf k : ℕ) (cap_list w₀ : List ℕ) (tables : TablesFor n nf (length cap_list / 4) w₀ k)
    (low : (s : ℕ) → s < 3 * (length cap_list / 4) → get_or w₀ (numbers_at n nf (length cap_list / 4) + k + s) 0 < k + 3 * (length cap_list / 4))
    (zeros : (r : ℕ) → r < k + 3 * (length cap_list / 4) → get_or w₀ (held_at n nf (length cap_list / 4) + r) 0 ≡ 0) where
  abbrev nc : ℕ
  nc = length cap_list / 4

  module _ (w : List ℕ) (s : ℕ) (inv : Noted (side_target n nf nc w₀ k) (λ s. eqb (side_face cap_list s)) w₀ w s) where
    pub sides_below : (x : ℕ) → x < held_at n nf nc → get_or w x 0 ≡ get_or w₀ x 0
    sides_below x h = inv.rest x (λ j l e. omega arith)

    module _ (numbers held : ℕ) (m : numbers ≡ numbers_at n nf nc + k) (e : held ≡ held_at n nf nc) (h : s < 3 * nc) (pair : ℕ) (p : pair ≡ get_or w (numbers + s) 0) where
      side_number_lem : pair ≡ get_or w₀ (numbers_at n nf nc + k + s) 0
      side_number_lem = p ∙ ap (λ (x : ℕ). get_or w (x + s) 0) m ∙ sides_below (numbers_at n nf nc + k + s) (omega (arith, tables.edges))

      side_target_lem : held + pair ≡ side_target n nf nc w₀ k s
      side_target_lem = λ t. e t + side_number_lem t

      pub note_side_low : held + pair < length w
      note_side_low = let a = low s h in let b = side_number_lem in omega (arith, tables.size, tables.edges, inv.long)

      zero_there : get_or w₀ (side_target n nf nc w₀ k s) 0 ≡ 0
      zero_there = zeros (get_or w₀ (numbers_at n nf nc + k + s) 0) (low s h)

      pub note_side_asks : ((s : ℕ) → s < 3 * nc → side_face cap_list s < 6) → (held + pair < length w) × (get_or w (held + pair) 0 < 64) × (side_face cap_list s < 6)
      note_side_asks f = (note_side_low, subst (λ (x : ℕ). get_or w x 0 < 64) (sym side_target_lem) (inv.small (side_target n nf nc w₀ k s) zero_there), f s h)

      pub note_side_turn : (v : List ℕ) → Added w v (held + pair) (eqb (side_face cap_list s)) → Noted (side_target n nf nc w₀ k) (λ s. eqb (side_face cap_list s)) w₀ v (s + 1)
      note_side_turn v a =
          noted_turn (side_target n nf nc w₀ k) (λ s. eqb (side_face cap_list s)) w₀ w s inv v zero_there
          (subst (λ (x : ℕ). Added w v x (eqb (side_face cap_list s))) side_target_lem a)
