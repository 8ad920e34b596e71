-- Laws of the groups of edges. Assumes nothing.
--   share_turn          to share a vertex goes both ways
--   together_told       two places are together exactly if a chain of shared vertices joins them
--   group_told          what stands in one group is together
--   one_component       two places are in one component exactly if a chain joins them (document 02, E13)
use Prim.Native.Nat.{ℕ, ◌<◌}
use native.Mathlib.Omega.{arith}
use mathlib.Core.Path.{◌≡◌, refl, sym, ◌∙◌, subst}
use mathlib.Core.Bool.{Bool, true, false, not, ◌||◌}
use mathlib.Core.List.Memᴰ
use mathlib.Core.List.{List, Memᴰ}
use mathlib.Core.Logic.{◌⊎◌, inl, inr}
use lib.Dec.{T, eqb, eqb→eq, eqb_refl}
use lib.ListN.{get_or, length}
use Rattle.lists.specs.Lists.{some, keep, place, up_to, Decides}
use Rattle.lists.proofs.Members.{or_left, or_right, or_cases, some_of, of_some, keep_of, of_keep, place_some, place_before}
use Rattle.lists.proofs.Places.{of_up, up_of, at_up, length_up}
use Rattle.lists.proofs.Sequences.{some_place}
use Rattle.components.specs.Joined.{same, back, via}
use Rattle.components.proofs.Once.{once_up}
use Rattle.components.proofs.Computed.{component_decides}
use Rattle.boundary_groups.specs.Groups.{is_end, share_end, all_places, nth_edge, linked, together, is_smallest, groups, Chained, SameComponent}

-- ---- a shared vertex

pub record Shared (e d : ℕ × ℕ) : Type 0 where
  pub v : ℕ
  pub left_end : T (is_end v e)
  pub right_end : T (is_end v d)

pub eqb_T : (a b : ℕ) → a ≡ b → T (eqb a b)
eqb_T a b e = subst (λ (x : ℕ). T (eqb a x)) e (eqb_refl a)

pub end_told : (v : ℕ) (e : ℕ × ℕ) → T (is_end v e) → (v ≡ e.0) ⊎ (v ≡ e.1)
end_told v e t = go (or_cases (eqb v e.0) (eqb v e.1) t)
  where
    go : T (eqb v e.0) ⊎ T (eqb v e.1) → (v ≡ e.0) ⊎ (v ≡ e.1)
    go (inl a) = inl (eqb→eq v e.0 a)
    go (inr b) = inr (eqb→eq v e.1 b)

pub first_end : (v : ℕ) (e : ℕ × ℕ) → v ≡ e.0 → T (is_end v e)
first_end v e q = or_left (eqb v e.0) (eqb v e.1) (eqb_T v e.0 q)

pub second_end : (v : ℕ) (e : ℕ × ℕ) → v ≡ e.1 → T (is_end v e)
second_end v e q = or_right (eqb v e.0) (eqb v e.1) (eqb_T v e.1 q)

pub share_of : (v : ℕ) (e d : ℕ × ℕ) → T (is_end v e) → T (is_end v d) → T (share_end e d)
unfolding share_end
share_of v e d a b = go (end_told v e a)
  where
    go : (v ≡ e.0) ⊎ (v ≡ e.1) → T (is_end e.0 d || is_end e.1 d)
    go (inl q) = or_left (is_end e.0 d) (is_end e.1 d) (subst (λ (x : ℕ). T (is_end x d)) q b)
    go (inr q) = or_right (is_end e.0 d) (is_end e.1 d) (subst (λ (x : ℕ). T (is_end x d)) q b)

pub of_share : (e d : ℕ × ℕ) → T (share_end e d) → Shared e d
unfolding share_end
of_share e d t = go (or_cases (is_end e.0 d) (is_end e.1 d) t)
  where
    go : T (is_end e.0 d) ⊎ T (is_end e.1 d) → Shared e d
    go (inl a) = record { v = e.0; left_end = first_end e.0 e refl; right_end = a }
    go (inr a) = record { v = e.1; left_end = second_end e.1 e refl; right_end = a }

pub share_turn : (e d : ℕ × ℕ) → T (share_end e d) → T (share_end d e)
share_turn e d t = let s = of_share e d t in share_of s.v d e s.right_end s.left_end

-- ---- groups

module _ (es : List (ℕ × ℕ)) where
  pub place_in : {i : ℕ} → i < length es → Memᴰ i (all_places es)
  place_in h = up_of 0 (length es) (omega arith) (omega arith)

  pub in_place : {i : ℕ} → Memᴰ i (all_places es) → i < length es
  in_place m = let h = (of_up 0 (length es) m).1 in omega arith

  pub at_place : (i : ℕ) → i < length es → get_or (all_places es) i 0 ≡ i
  at_place i h = at_up 0 (length es) i h ∙ omega arith

  pub together_told : (i j : ℕ) → i < length es → Decides (Chained es i j) (together es i j)
  unfolding together
  together_told i j h = component_decides (linked es) (λ a b. share_turn (nth_edge es a) (nth_edge es b)) (all_places es) (once_up 0 (length es)) j (place_in h)

  pub record Group (g : List ℕ) : Type 0 where
    pub least : ℕ
    pub least_in : least < length es
    pub smallest : T (is_smallest es least)
    pub is : g ≡ keep (together es least) (all_places es)

  pub of_groups : (g : List ℕ) → Memᴰ g (groups es) → Group g
  unfolding groups
  of_groups g m =
      let r = Memᴰ.of_map (λ i. keep (together es i) (all_places es)) (keep (is_smallest es) (all_places es)) m in
      let k = of_keep (is_smallest es) (all_places es) r.1 in
      record { least = r.0; least_in = in_place k.0; smallest = k.1; is = sym r.2 }

  pub groups_of : (r : ℕ) → r < length es → T (is_smallest es r) → Memᴰ (keep (together es r) (all_places es)) (groups es)
  unfolding groups
  groups_of r h t = Memᴰ.map (λ i. keep (together es i) (all_places es)) (keep_of (is_smallest es) (place_in h) t)

  pub group_told : (g : List ℕ) (q : Group g) (i : ℕ) → Memᴰ i g → (i < length es) × Chained es q.least i
  group_told g q i m =
      let k = of_keep (together es q.least) (all_places es) (subst (λ (l : List ℕ). Memᴰ i l) q.is m) in
      (in_place k.0, (together_told q.least i q.least_in).sound k.1)

  -- the first that is together with i
  module _ (i : ℕ) (h : i < length es) where
    abbrev least : ℕ
    least = place (together es i) (all_places es)

    found : T (some (together es i) (all_places es))
    found = some_of (together es i) (place_in h) ((together_told i i h).complete same)

    least_low : least < length es
    least_low = let a = some_place (together es i) (all_places es) found in let b = length_up 0 (length es) in omega arith

    least_is : get_or (all_places es) least 0 ≡ least
    least_is = at_place least least_low

    least_chained : Chained es i least
    least_chained =
        (together_told i least h).sound (subst (λ (x : ℕ). T (together es i x)) least_is (place_some (together es i) 0 (all_places es) found).1)

    none_less : (q : ℕ) → q < least → Chained es i q → ⊥
    none_less q l c =
        place_before (together es i) 0 (all_places es) q l
        (subst (λ (x : ℕ). T (together es i x)) (sym (at_place q (omega (arith, least_low)))) ((together_told i q h).complete c))

  pub smallest_told : (r : ℕ) → ((q : ℕ) → q < r → T (together es r q) → ⊥) → T (is_smallest es r)
  smallest_told r f = go (some (together es r) (up_to r)) (λ t. let s = of_some (together es r) (up_to r) t in f s.0 (let a = (of_up 0 r s.1).1 in omega arith) s.2)
    where
      go : (b : Bool) → (T b → ⊥) → T (not b)
      go true g = absurd (g tt)
      go false g = tt

  same_chained : (i j : ℕ) → SameComponent es i j → Chained es i j
  same_chained i j s =
      let q = of_groups s.group s.listed in
      via (back (group_told s.group q i s.left_in).1) (group_told s.group q j s.right_in).1

  chained_same : (i j : ℕ) → i < length es → j < length es → Chained es i j → SameComponent es i j
  chained_same i j h l c =
      let r = least i h in
      let lo = least_low i h in
      let ch = least_chained i h in
      record {
        group = keep (together es r) (all_places es);
        listed = groups_of r lo (smallest_told r (λ q a t. none_less i h q a (via ch ((together_told r q lo).sound t))));
        left_in = keep_of (together es r) (place_in h) ((together_told r i lo).complete (back ch));
        right_in = keep_of (together es r) (place_in l) ((together_told r j lo).complete (via (back ch) c));
      }

  -- "two open edges are in one slit exactly if so joined"
  pub one_component : (i j : ℕ) → i < length es → j < length es → (SameComponent es i j → Chained es i j) × (Chained es i j → SameComponent es i j)
  one_component i j h l = (same_chained i j, chained_same i j h l)
