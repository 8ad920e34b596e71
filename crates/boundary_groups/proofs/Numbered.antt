-- Laws of the groups by the numbers of their components. Assumes nothing.
--   EndsOf               labels are the ends of the edges, two each
--   shared_linked, linked_shared   to share a label is to share a vertex
--   numbers_together, numbers_smallest, numbers_groups   the groups by their numbers
use Prim.Native.Nat.{ℕ, zero, suc, ◌+◌, ◌*◌, ◌≤◌, ◌<◌}
use native.Mathlib.Omega.{arith}
use native.Mathlib.Decide.{ℕ_discrete}
use mathlib.Core.Path.{◌≡◌, sym, ap, ◌∙◌, subst}
use mathlib.Core.List.{List, map}
use mathlib.Core.Logic.{◌⊎◌, inl, inr}
use lib.Dec.{T, T_not, eqb, eqb→eq}
use lib.ListN.{get_or, length}
use Rattle.lists.specs.Lists.{some, keep, up_to}
use Rattle.lists.proofs.Members.{some_of, of_keep}
use Rattle.lists.proofs.Places.{up_of}
use Rattle.lists.proofs.Counts.{keep_same}
use Rattle.lists.proofs.Sequences.{map_same}
use Rattle.lists.proofs.Bools.{eqb_sym}
use Rattle.components.specs.Joined.{Joined, one, Among, SharedLabel}
use Rattle.components.specs.Table.{ComponentNumbers}
use Rattle.components.proofs.Joined.{joined_into, least_le}
use Rattle.components.proofs.Once.{decides_same, decides_eqb}
use Rattle.components.proofs.Numbers.{numbers_decide}
use Rattle.boundary_groups.specs.Groups.{is_end, all_places, nth_edge, linked, together, is_smallest, groups, Chained}
use Rattle.boundary_groups.proofs.Together.{end_told, first_end, second_end, share_of, of_share, place_in, in_place, together_told, smallest_told}

module _ (es : List (ℕ × ℕ)) (labels : List ℕ) where
  pub record EndsOf : Type 0 where
    pub first : (i : ℕ) → i < length es → get_or labels (i * 2 + 0) 0 ≡ (nth_edge es i).0
    pub second : (i : ℕ) → i < length es → get_or labels (i * 2 + 1) 0 ≡ (nth_edge es i).1

  module _ (E : EndsOf) where
    label_end : (i a : ℕ) → i < length es → a < 2 → T (is_end (get_or labels (i * 2 + a) 0) (nth_edge es i))
    label_end i zero h l = first_end (get_or labels (i * 2 + 0) 0) (nth_edge es i) (E.first i h)
    label_end i (suc zero) h l = second_end (get_or labels (i * 2 + 1) 0) (nth_edge es i) (E.second i h)
    label_end i (suc (suc a)) h l = absurd (omega arith)

    pub record LabelAt (v i : ℕ) : Type 0 where
      pub slot : ℕ
      pub low : slot < 2
      pub is : get_or labels (i * 2 + slot) 0 ≡ v

    end_label : (v i : ℕ) → i < length es → T (is_end v (nth_edge es i)) → LabelAt v i
    end_label v i h t = go (end_told v (nth_edge es i) t)
      where
        go : (v ≡ (nth_edge es i).0) ⊎ (v ≡ (nth_edge es i).1) → LabelAt v i
        go (inl q) = record { slot = 0; low = omega arith; is = E.first i h ∙ sym q }
        go (inr q) = record { slot = 1; low = omega arith; is = E.second i h ∙ sym q }

    pub shared_linked : (i j : ℕ) → SharedLabel labels (length es) 2 i j → Among (linked es) (all_places es) i j
    shared_linked i j s =
        record {
          left_in = place_in es s.i_in;
          right_in = place_in es s.j_in;
          linked = share_of (get_or labels (i * 2 + s.a) 0) (nth_edge es i) (nth_edge es j) (label_end i s.a s.i_in s.a_in)
              (subst (λ (v : ℕ). T (is_end v (nth_edge es j))) (sym s.label) (label_end j s.b s.j_in s.b_in));
        }

    pub linked_shared : (i j : ℕ) → Among (linked es) (all_places es) i j → SharedLabel labels (length es) 2 i j
    linked_shared i j s =
        let h = in_place es s.left_in in
        let l = in_place es s.right_in in
        let v = of_share (nth_edge es i) (nth_edge es j) s.linked in
        let p = end_label v.v i h v.left_end in
        let q = end_label v.v j l v.right_end in
        record { a = p.slot; b = q.slot; i_in = h; j_in = l; a_in = p.low; b_in = q.low; label = p.is ∙ sym q.is }

    pub labels_chained : (i j : ℕ) → Joined (SharedLabel labels (length es) 2) i j → Chained es i j
    labels_chained = joined_into (λ i j s. one (shared_linked i j s))

    pub chained_labels : (i j : ℕ) → Chained es i j → Joined (SharedLabel labels (length es) 2) i j
    chained_labels = joined_into (λ i j s. one (linked_shared i j s))

    module _ (c : List ℕ) (N : ComponentNumbers labels (length es) 2 c) where
      abbrev pub number : ℕ → ℕ
      number i = get_or c i 0

      pub numbers_together : (i j : ℕ) → i < length es → j < length es → together es i j ≡ eqb (number i) (number j)
      numbers_together i j h l =
          decides_same (together es i j) (eqb (number i) (number j)) (together_told es i j h) (numbers_decide labels (length es) 2 c N i j h l)
          (chained_labels i j) (labels_chained i j)

      number_low : (i : ℕ) → i < length es → number i ≤ i
      number_low i h = least_le (N.number i h)

      -- the smallest of a component has its own number
      pub numbers_smallest : (i : ℕ) → i < length es → is_smallest es i ≡ eqb (number i) i
      numbers_smallest i h =
          decides_same (is_smallest es i) (eqb (number i) i) (record { sound = λ t. t; complete = λ t. t }) (decides_eqb (number i) i) own small
        where
          own : T (is_smallest es i) → number i ≡ i
          own t = go (ℕ_discrete (number i) i)
            where
              go : Dec (number i ≡ i) → number i ≡ i
              go (yes e) = e
              go (no d) =
                  let lo = number_low i h in
                  absurd (T_not (some (together es i) (up_to i)) t
                  (some_of (together es i) (up_of 0 i {i = number i} (omega arith) (omega arith))
                  ((together_told es i (number i) h).complete (labels_chained i (number i) (N.number i h).joined))))

          small : number i ≡ i → T (is_smallest es i)
          small e = smallest_told es i (λ q l t.
              let a = (N.number i h).least q (chained_labels i q ((together_told es i q h).sound t)) in omega arith)

      pub numbers_groups : groups es ≡ map (λ r. keep (λ j. eqb (number j) r) (all_places es)) (keep (λ i. eqb (number i) i) (all_places es))
      unfolding groups
      numbers_groups =
          ap (map (λ r. keep (together es r) (all_places es))) (keep_same (is_smallest es) (λ i. eqb (number i) i) (all_places es) (λ i m. numbers_smallest i (in_place es m)))
          ∙ map_same (λ r. keep (together es r) (all_places es)) (λ r. keep (λ j. eqb (number j) r) (all_places es)) (keep (λ i. eqb (number i) i) (all_places es)) (λ r m.
          let k = of_keep (λ i. eqb (number i) i) (all_places es) m in
          keep_same (together es r) (λ j. eqb (number j) r) (all_places es) (λ j n.
          numbers_together r j (in_place es k.0) (in_place es n) ∙ ap (λ (x : ℕ). eqb x (number j)) (eqb→eq (number r) r k.1) ∙ eqb_sym r (number j)))
