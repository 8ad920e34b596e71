-- What the inner functions of the selection do, of which the outer contract does not speak. Of side s of the turned triangles the number of its pair stands at
-- numbers_at + k + s. Assumes nothing.
--   side_number     the number of side s's pair
--   open_in         an open edge of whatever face has the pair                  label_in     the label of side s
--   against_in      an open edge of the face f runs against side s              seed_in      against a side of triangle i
--   seeded_by       one of the first i triangles is a seed and has the component r
--   marked_seed     the room with the component of triangle i marked, if that is a seed
--   SidesNumbered  there is room, and the numbers are those of pairs
--   Markable       and the components' numbers, and no component is marked
--   Labelled, JoinedCaps, SeedsMarked   what `put_labels`, `join_caps` and `mark_seeds` leave
use Rattle.std.specs.Prelude.{ℕ, ◌+◌, ◌*◌, ◌≤◌, ◌<◌, ◌≡◌, Bool, cond, not, ◌&&◌, ◌||◌, List, map, eqb, ltb, length, get_or, set}
use Rattle.lists.specs.Lists.{some, up_to}
use Rattle.lists.specs.Regions.{view, Above}
use Rattle.box_faces.specs.Faces.{has_bit}
use Rattle.edges.specs.Table.{next_side}
use Rattle.components.specs.Table.{ComponentNumbers}
use Rattle.cap_triangles.specs.Room.{turned_at, numbers_at, up_at, down_at, labels_at, components_at, seeded_at}

module _ (n nf nc : ℕ) where
  unfoldable pub open_in : List ℕ → ℕ → Bool
  open_in w pair = not (eqb (get_or w (up_at n nf nc + pair) 0) 0) || not (eqb (get_or w (down_at n nf nc + pair) 0) 0)

  module _ (k : ℕ) where
    abbrev pub side_number : List ℕ → ℕ → ℕ
    side_number w s = get_or w (numbers_at n nf nc + k + s) 0

    -- beyond all numbers of pairs, and another for each side, on an open edge
    unfoldable pub label_in : List ℕ → ℕ → ℕ
    label_in w s = cond (open_in w (side_number w s)) (k + 3 * nc + s) (side_number w s)

    unfoldable pub against_in : List ℕ → ℕ → ℕ → Bool
    against_in w s f =
        cond (ltb (get_or w (turned_at n nf + s) 0) (get_or w (turned_at n nf + next_side s) 0))
        (has_bit (get_or w (down_at n nf nc + side_number w s) 0) f)
        (has_bit (get_or w (up_at n nf nc + side_number w s) 0) f)

    unfoldable pub seed_in : List ℕ → ℕ → ℕ → Bool
    seed_in w i f = against_in w (3 * i) f || (against_in w (3 * i + 1) f || against_in w (3 * i + 2) f)

    unfoldable pub seeded_by : List ℕ → List ℕ → ℕ → ℕ → Bool
    seeded_by cap_list w i r = some (λ j. seed_in w j (get_or cap_list (4 * j) 0) && eqb (get_or w (components_at n nf nc + j) 0) r) (up_to i)

    abbrev pub marked_seed : List ℕ → ℕ → ℕ → List ℕ
    marked_seed w i f = cond (seed_in w i f) (set w (seeded_at n nf nc + get_or w (components_at n nf nc + i) 0) 1) w

    pub record SidesNumbered (w : List ℕ) : Type 0 where
      pub small : n < 1048576
      pub few : nf < 268435456
      pub caps : nc ≤ 1048576
      pub edges : k ≤ 3 * nf
      pub size : turned_at n nf + 27 * nf + 39 * nc ≤ length w
      pub low : (s : ℕ) → s < 3 * nc → side_number w s < k + 3 * nc

    -- with no component marked
    pub record Markable (cap_list w : List ℕ) : Type 0 where
      pub sides : SidesNumbered w
      pub faces : (i : ℕ) → i < nc → get_or cap_list (4 * i) 0 < 6
      pub components : (i : ℕ) → i < nc → get_or w (components_at n nf nc + i) 0 < nc
      pub unmarked : (r : ℕ) → r < nc → get_or w (seeded_at n nf nc + r) 0 ≡ 0

    pub record Labelled (w w' : List ℕ) : Type 0 where
      pub above : Above (labels_at n nf nc) w w'
      pub label : (s : ℕ) → s < 3 * nc → get_or w' (labels_at n nf nc + s) 0 ≡ label_in w s

    pub record JoinedCaps (w w' : List ℕ) : Type 0 where
      pub above : Above (labels_at n nf nc) w w'
      pub numbers : ComponentNumbers (map (label_in w) (up_to (3 * nc))) nc 3 (view w' (components_at n nf nc) nc)

    pub record SeedsMarked (cap_list w w' : List ℕ) : Type 0 where
      pub above : Above (seeded_at n nf nc) w w'
      pub seeded : (r : ℕ) → r < nc → get_or w' (seeded_at n nf nc + r) 0 ≡ cond (seeded_by cap_list w nc r) 1 0
