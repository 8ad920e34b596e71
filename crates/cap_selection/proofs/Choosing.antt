-- The steps of the selection one after the other: the marks say which components hold a seed, and these are the definition's. Assumes nothing.
--   markable       before the marks
--   chosen         what `select_caps` leaves
use Prim.Native.Nat.{ℕ, ◌+◌, ◌*◌, ◌/◌, ◌<◌}
use native.Mathlib.Omega.{arith}
use mathlib.Core.Path.{◌≡◌, refl, sym, ap, ◌∙◌, subst}
use mathlib.Core.Bool.{Bool, true, false, cond, ◌&&◌}
use mathlib.Core.List.{List, map}
use lib.Dec.{T, eqb, eqb→eq}
use lib.ListN.{length, get_or, length-map}
use lib.Seq.{ext_get_or}
use Rattle.lists.specs.Lists.{some, up_to, Decides}
use Rattle.lists.specs.Regions.{view, PartZeroed, Above}
use Rattle.lists.proofs.Members.{some_of, of_some, and_parts, and_of}
use Rattle.lists.proofs.Places.{of_up, up_of, length_up, at_up, at_map_up}
use Rattle.lists.proofs.Regions.{view_at, above_less, above_more}
use Rattle.components.specs.Components.{components, component_of}
use Rattle.components.specs.Table.{ComponentNumbers}
use Rattle.components.proofs.Once.{once_up, decides_same, decides_eqb}
use Rattle.components.proofs.Numbers.{number_in, numbers_some}
use Rattle.candidate_pool.specs.OpenEdges.{OpenEdge}
use Rattle.candidate_pool.specs.Offsets.{open_edges_at}
use Rattle.candidate_pool.specs.Standing.{pool_at, edges_at}
use Rattle.cap_triangles.specs.Selection.{Cap, caps_of, outward_caps, is_seed, share_edge, selected}
use Rattle.cap_triangles.specs.Room.{labels_at, components_at, seeded_at, CapReady}
use Rattle.cap_triangles.proofs.Selecting.{share_turn}
use Rattle.cap_triangles.proofs.Kept.{pool_kept, edges_kept}
use Rattle.cap_pairs.specs.Pairs.{PairsKnown}
use Rattle.cap_selection.specs.Chosen.{chosen_in, Chosen}
use Rattle.cap_selection.specs.Steps.{open_in, side_number, label_in, seed_in, seeded_by, Markable, JoinedCaps, SeedsMarked}
use Rattle.cap_selection.proofs.Same.{seed_same, numbered_same}
use Rattle.cap_selection.proofs.Opening.{turned_caps, sides_numbered, count_caps, numbers_same, open_known, faces_low, seed_known}
use Rattle.cap_selection.proofs.Linking.{Labelling, labels_link}

bit_is : (b : Bool) → eqb (cond b 1 0) 1 ≡ b
bit_is true = refl
bit_is false = refl

-- w as the pairs were known, u with the components, v with no mark, z with the marks
module _ (n nf k : ℕ) (cap_list w u v : List ℕ) (ready : CapReady n nf k cap_list w) (known : PairsKnown n nf k cap_list w)
    (joined : JoinedCaps n nf (length cap_list / 4) k w u) (zeroed : PartZeroed u v (seeded_at n nf (length cap_list / 4)) (length cap_list / 4)) where
  abbrev nc : ℕ
  nc = length cap_list / 4

  abbrev boundary : List OpenEdge
  boundary = edges_at w (open_edges_at n nf) k

  abbrev caps : List Cap
  caps = turned_caps n nf k cap_list w ready known

  cleared : Above (seeded_at n nf nc) u v
  cleared = record { long = zeroed.long; below = λ x h. zeroed.rest x (λ i l e. omega arith) }

  labels_above : Above (labels_at n nf nc) w v
  labels_above = above_more (labels_at n nf nc) w u v joined.above (above_less (labels_at n nf nc) (seeded_at n nf nc) u v (omega arith) cleared)

  abbrev numbers : List ℕ
  numbers = view u (components_at n nf nc) nc

  component_is : (i : ℕ) → i < nc → get_or v (components_at n nf nc + i) 0 ≡ get_or numbers i 0
  component_is i h = cleared.below (components_at n nf nc + i) (omega arith) ∙ sym (view_at u (components_at n nf nc) nc i h)

  component_low : (i : ℕ) → i < nc → get_or v (components_at n nf nc + i) 0 < nc
  component_low i h =
      let e = component_is i h in
      let l = number_in (map (label_in n nf nc k w) (up_to (3 * nc))) nc 3 numbers joined.numbers i h in
      omega arith

  pub markable : Markable n nf nc k cap_list v
  markable =
      record {
        sides = numbered_same n nf nc k w (sides_numbered n nf k cap_list w ready known) v labels_above;
        faces = faces_low n nf k cap_list w ready known;
        components = component_low;
        unmarked = zeroed.zero;
      }

  labelling : Labelling boundary caps nc (k + 3 * nc) (side_number n nf nc k w) (label_in n nf nc k w) (open_in n nf nc w)
  unfolding label_in
  labelling =
      record {
        count = count_caps n nf k cap_list w ready known;
        low = (sides_numbered n nf k cap_list w ready known).low;
        same = numbers_same n nf k cap_list w ready known;
        on_open = open_known n nf k cap_list w ready known;
        put = λ s h. refl;
      }

  abbrev link : ℕ → ℕ → Bool
  link = share_edge boundary caps

  abbrev HoldsSeed : ℕ → Type 0
  HoldsSeed i = (j : ℕ) × (j < nc) × T (is_seed boundary caps j) × (get_or numbers i 0 ≡ get_or numbers j 0)

  -- the definition's
  defined : (i : ℕ) → i < nc → Decides (HoldsSeed i) (some (is_seed boundary caps) (component_of (components link (up_to nc)) i))
  defined i h = record {
    sound = λ t. let r = d.sound (subst (λ (x : ℕ). T (some (is_seed boundary caps) (component_of (components link (up_to nc)) x))) (sym (place i h)) t) in
        let l : r.0 < nc = (let b = r.1 in let g = long in omega arith) in
        (r.0, l, subst (λ (x : ℕ). T (is_seed boundary caps x)) (place r.0 l) r.2, r.3);
    complete = λ r. subst (λ (x : ℕ). T (some (is_seed boundary caps) (component_of (components link (up_to nc)) x))) (place i h)
        (d.complete (r.0, (let b = r.1 in let g = long in omega arith), subst (λ (x : ℕ). T (is_seed boundary caps x)) (sym (place r.0 r.1)) r.2, r.3));
  }
    where
      long : length (up_to nc) ≡ nc
      long = length_up 0 nc

      place : (j : ℕ) → j < nc → get_or (up_to nc) j 0 ≡ j
      place j l = at_up 0 nc j l ∙ omega arith

      d : Decides ((b : ℕ) × (b < length (up_to nc)) × T (is_seed boundary caps (get_or (up_to nc) b 0)) × (get_or numbers i 0 ≡ get_or numbers b 0))
          (some (is_seed boundary caps) (component_of (components link (up_to nc)) (get_or (up_to nc) i 0)))
      d = numbers_some (map (label_in n nf nc k w) (up_to (3 * nc))) 3 link (up_to nc) (once_up 0 nc)
          (labels_link boundary caps nc (k + 3 * nc) (side_number n nf nc k w) (label_in n nf nc k w) (open_in n nf nc w) labelling)
          (share_turn boundary caps) numbers
          (subst (λ (x : ℕ). ComponentNumbers (map (label_in n nf nc k w) (up_to (3 * nc))) x 3 numbers) (sym long) joined.numbers)
          (is_seed boundary caps) i (let e = long in omega arith)

  seed_is : (j : ℕ) → j < nc → seed_in n nf nc k v j (get_or cap_list (4 * j) 0) ≡ is_seed boundary caps j
  seed_is j h =
      seed_same n nf nc k w (sides_numbered n nf k cap_list w ready known) v labels_above j (get_or cap_list (4 * j) 0) h
      ∙ seed_known n nf k cap_list w ready known j h

  -- the marks'
  marked : (i : ℕ) → i < nc → Decides (HoldsSeed i) (seeded_by n nf nc k cap_list v nc (get_or numbers i 0))
  unfolding seeded_by
  marked i h = record {
    sound = λ t.
        let r = of_some marks (up_to nc) t in
        let b = (of_up 0 nc r.1).1 in
        let l : r.0 < nc = omega arith in
        let q = and_parts (seed_in n nf nc k v r.0 (get_or cap_list (4 * r.0) 0)) (eqb (get_or v (components_at n nf nc + r.0) 0) (get_or numbers i 0)) r.2 in
        (r.0, l, subst T (seed_is r.0 l) q.0, sym (sym (component_is r.0 l) ∙ eqb→eq (get_or v (components_at n nf nc + r.0) 0) (get_or numbers i 0) q.1));
    complete = λ r.
        let l = r.1 in
        some_of marks (up_of 0 nc (omega arith) (omega arith))
        (and_of (seed_in n nf nc k v r.0 (get_or cap_list (4 * r.0) 0)) (eqb (get_or v (components_at n nf nc + r.0) 0) (get_or numbers i 0)) (subst T (sym (seed_is r.0 l)) r.2)
        ((decides_eqb (get_or v (components_at n nf nc + r.0) 0) (get_or numbers i 0)).complete (component_is r.0 l ∙ sym r.3)));
  }
    where
      marks : ℕ → Bool
      marks j = seed_in n nf nc k v j (get_or cap_list (4 * j) 0) && eqb (get_or v (components_at n nf nc + j) 0) (get_or numbers i 0)

  module _ (z : List ℕ) (done : SeedsMarked n nf nc k cap_list v z) where
    all_above : Above (labels_at n nf nc) w z
    all_above = above_more (labels_at n nf nc) w v z labels_above (above_less (labels_at n nf nc) (seeded_at n nf nc) v z (omega arith) done.above)

    component_end : (i : ℕ) → i < nc → get_or z (components_at n nf nc + i) 0 ≡ get_or numbers i 0
    component_end i h = done.above.below (components_at n nf nc + i) (omega arith) ∙ component_is i h

    one_chosen : (i : ℕ) → i < nc
        → eqb (get_or z (seeded_at n nf nc + get_or z (components_at n nf nc + i) 0) 0) 1 ≡ some (is_seed boundary caps) (component_of (components link (up_to nc)) i)
    one_chosen i h =
        let e = component_end i h in
        let c = component_is i h in
        let l = component_low i h in
        ap (λ (x : ℕ). eqb (get_or z (seeded_at n nf nc + x) 0) 1) e
        ∙ ap (λ (x : ℕ). eqb x 1) (done.seeded (get_or numbers i 0) (omega arith))
        ∙ bit_is (seeded_by n nf nc k cap_list v nc (get_or numbers i 0))
        ∙ decides_same (seeded_by n nf nc k cap_list v nc (get_or numbers i 0)) (some (is_seed boundary caps) (component_of (components link (up_to nc)) i)) (marked i h) (defined i h)
        (λ x. x) (λ x. x)

    all_chosen : chosen_in n nf nc z ≡ map (λ i. some (is_seed boundary caps) (component_of (components link (up_to nc)) i)) (up_to nc)
    all_chosen =
        ext_get_or false (map here (up_to nc)) (map there (up_to nc)) (length-map (up_to nc) here ∙ sym (length-map (up_to nc) there))
        (λ i h.
        let l : i < nc = (let a = length-map (up_to nc) here in let b = length_up 0 nc in omega arith) in
        let e : 0 + i ≡ i = omega arith in
        at_map_up here false 0 nc i l ∙ ap here e ∙ one_chosen i l ∙ sym (at_map_up there false 0 nc i l ∙ ap there e))
      where
        here : ℕ → Bool
        here i = eqb (get_or z (seeded_at n nf nc + get_or z (components_at n nf nc + i) 0) 0) 1

        there : ℕ → Bool
        there i = some (is_seed boundary caps) (component_of (components link (up_to nc)) i)

    selected_is : map (λ i. some (is_seed boundary caps) (component_of (components link (up_to nc)) i)) (up_to nc) ≡ selected boundary caps
    unfolding selected
    selected_is = ap (λ (x : ℕ). map (λ i. some (is_seed boundary caps) (component_of (components link (up_to x)) i)) (up_to x)) (sym (count_caps n nf k cap_list w ready known))

    pool_end_lem : pool_at n z ≡ pool_at n w
    pool_end_lem = pool_kept (labels_at n nf nc) w z all_above n ready.ready.supplied.pooled (omega arith)

    edges_end : edges_at z (open_edges_at n nf) k ≡ boundary
    edges_end = let e = ready.edges in edges_kept (labels_at n nf nc) w z all_above (open_edges_at n nf) k (omega arith)

    pub chosen : Chosen n nf k cap_list w z
    chosen =
        let p = pool_end_lem in
        let e = edges_end in
        record {
          above = all_above;
          low = λ i h. let q = component_end i h in let c = component_is i h in let l = component_low i h in omega arith;
          chosen = all_chosen ∙ selected_is ∙ (λ t. selected (sym e t) (outward_caps (sym p t) (caps_of cap_list)));
        }
