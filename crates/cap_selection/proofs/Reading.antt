-- What the tests answer, from the words that they read at places computed on the way. Assumes nothing.
--   open_first, open_second    an open edge that runs up; or down
--   label_open, label_shared   the label of a side on an open edge, and of one that is on none
--   against_down, against_up   of a side that runs up, and of one that does not
--   seed_skipped, seed_marked  the store for a triangle that is no seed, and for one that is
use Prim.Native.Nat.{ℕ, ◌+◌, ◌*◌, ◌≤◌, ◌<◌}
use mathlib.Core.Path.{◌≡◌, refl, sym, ap, ◌∙◌}
use mathlib.Core.Bool.{Bool, true, false, not}
use mathlib.Core.List.{List}
use borrow.Author.Tests.{eq-eqb, ne_eqb, lt-ltb, le-ltb, not-true, not-false}
use lib.Dec.{eqb, ltb}
use lib.ListN.{get_or, set}
use Rattle.lists.proofs.Bools.{or_next, or_stop, cond_true, cond_false}
use Rattle.box_faces.specs.Faces.{has_bit}
use Rattle.edges.specs.Table.{next_side}
use Rattle.cap_triangles.specs.Room.{turned_at, numbers_at, up_at, down_at, components_at, seeded_at}
use Rattle.cap_selection.specs.Steps.{open_in, side_number, label_in, against_in, seed_in, marked_seed}

module _ (n nf nc : ℕ) (w : List ℕ) where
  pub open_first : (pair up : ℕ) → up ≡ up_at n nf nc → (get_or w (up + pair) 0 ≡ 0 → ⊥) → true ≡ open_in n nf nc w pair
  unfolding open_in
  open_first pair up e test =
      sym (or_stop (not (eqb (get_or w (up_at n nf nc + pair) 0) 0)) (not (eqb (get_or w (down_at n nf nc + pair) 0) 0))
      (ap not (ap (λ (x : ℕ). eqb (get_or w (x + pair) 0) 0) (sym e) ∙ ne_eqb (get_or w (up + pair) 0) 0 test)))

  pub open_second : (pair up down : ℕ) → up ≡ up_at n nf nc → down ≡ down_at n nf nc → get_or w (up + pair) 0 ≡ 0
      → not (eqb (get_or w (down + pair) 0) 0) ≡ open_in n nf nc w pair
  unfolding open_in
  open_second pair up down e d test =
      ap (λ (x : ℕ). not (eqb (get_or w (x + pair) 0) 0)) d
      ∙ sym (or_next (not (eqb (get_or w (up_at n nf nc + pair) 0) 0)) (not (eqb (get_or w (down_at n nf nc + pair) 0) 0)) (not (eqb (get_or w (down_at n nf nc + pair) 0) 0))
      (ap not (ap (λ (x : ℕ). eqb (get_or w (x + pair) 0) 0) (sym e) ∙ eq-eqb (get_or w (up + pair) 0) 0 test)) refl)

  module _ (k s numbers : ℕ) (at : numbers ≡ numbers_at n nf nc) where
    number_is : get_or w (numbers + k + s) 0 ≡ side_number n nf nc k w s
    number_is = ap (λ (x : ℕ). get_or w (x + k + s) 0) at

    pub label_open : (r : Bool) → r ≡ open_in n nf nc w (get_or w (numbers + k + s) 0) → r ≡ true → k + 3 * nc + s ≡ label_in n nf nc k w s
    unfolding label_in
    label_open r e is =
        sym (cond_true (open_in n nf nc w (side_number n nf nc k w s)) (k + 3 * nc + s) (side_number n nf nc k w s) (k + 3 * nc + s)
        (sym (ap (open_in n nf nc w) number_is) ∙ sym e ∙ is) refl)

    pub label_shared : (r : Bool) → r ≡ open_in n nf nc w (get_or w (numbers + k + s) 0) → r ≡ false → get_or w (numbers + k + s) 0 ≡ label_in n nf nc k w s
    unfolding label_in
    label_shared r e is =
        sym (cond_false (open_in n nf nc w (side_number n nf nc k w s)) (k + 3 * nc + s) (side_number n nf nc k w s) (get_or w (numbers + k + s) 0)
        (sym (ap (open_in n nf nc w) number_is) ∙ sym e ∙ is) (sym number_is))

    module _ (f turned next : ℕ) (first : turned ≡ turned_at n nf) (after : next ≡ next_side s) where
      test_is : ltb (get_or w (turned + s) 0) (get_or w (turned + next) 0) ≡ ltb (get_or w (turned_at n nf + s) 0) (get_or w (turned_at n nf + next_side s) 0)
      test_is = λ t. ltb (get_or w (first t + s) 0) (get_or w (first t + after t) 0)

      pub against_down : (down : ℕ) (r : Bool) → down ≡ down_at n nf nc → get_or w (turned + s) 0 < get_or w (turned + next) 0
          → r ≡ has_bit (get_or w (down + get_or w (numbers + k + s) 0) 0) f → r ≡ against_in n nf nc k w s f
      unfolding against_in
      against_down down r d test is =
          is ∙ (λ t. has_bit (get_or w (d t + number_is t) 0) f)
          ∙ sym (cond_true (ltb (get_or w (turned_at n nf + s) 0) (get_or w (turned_at n nf + next_side s) 0))
          (has_bit (get_or w (down_at n nf nc + side_number n nf nc k w s) 0) f)
          (has_bit (get_or w (up_at n nf nc + side_number n nf nc k w s) 0) f)
          (has_bit (get_or w (down_at n nf nc + side_number n nf nc k w s) 0) f)
          (sym test_is ∙ lt-ltb (get_or w (turned + s) 0) (get_or w (turned + next) 0) test) refl)

      pub against_up : (up : ℕ) (r : Bool) → up ≡ up_at n nf nc → get_or w (turned + next) 0 ≤ get_or w (turned + s) 0
          → r ≡ has_bit (get_or w (up + get_or w (numbers + k + s) 0) 0) f → r ≡ against_in n nf nc k w s f
      unfolding against_in
      against_up up r d test is =
          is ∙ (λ t. has_bit (get_or w (d t + number_is t) 0) f)
          ∙ sym (cond_false (ltb (get_or w (turned_at n nf + s) 0) (get_or w (turned_at n nf + next_side s) 0))
          (has_bit (get_or w (down_at n nf nc + side_number n nf nc k w s) 0) f)
          (has_bit (get_or w (up_at n nf nc + side_number n nf nc k w s) 0) f)
          (has_bit (get_or w (up_at n nf nc + side_number n nf nc k w s) 0) f)
          (sym test_is ∙ le-ltb (get_or w (turned + s) 0) (get_or w (turned + next) 0) test) refl)

module _ (n nf nc k : ℕ) (w : List ℕ) (i f : ℕ) (r : Bool) (is : r ≡ seed_in n nf nc k w i f) where
  abbrev stored : List ℕ
  stored = set w (seeded_at n nf nc + get_or w (components_at n nf nc + i) 0) 1

  pub seed_skipped : not r ≡ true → w ≡ marked_seed n nf nc k w i f
  seed_skipped off = sym (cond_false (seed_in n nf nc k w i f) stored w w (sym is ∙ not-true r off) refl)

  pub seed_marked : (components seeded : ℕ) → components ≡ components_at n nf nc → seeded ≡ seeded_at n nf nc → not r ≡ false
      → set w (seeded + get_or w (components + i) 0) 1 ≡ marked_seed n nf nc k w i f
  seed_marked components seeded c s on =
      (λ t. set w (s t + get_or w (c t + i) 0) 1) ∙ sym (cond_true (seed_in n nf nc k w i f) stored w stored (sym is ∙ not-false r on) refl)
