-- The rule by cells is lawful: it is symmetric, what is found joins, and where nothing is found none joins. Assumes nothing.
use Prim.Native.Nat.{ℕ, ◌<◌}
use native.Mathlib.Omega.{arith}
use mathlib.Core.Path.{◌≡◌, refl, sym, ap, subst, ◌∙◌}
use mathlib.Core.Bool.{Bool, true, false, ◌&&◌, ◌||◌, true≢false}
use mathlib.Core.List.{List, [], ◌∷◌, ◌++◌, flat_map}
use mathlib.Core.Logic.{◌⊎◌, inl, inr, ⊎_elim}
use Rattle.std.specs.Prelude.{None, Some}
use lib.Dec.{T}
use lib.IntN.{ℤ, pos, negsuc, suc_ℤ, pred_ℤ, suc-pred, pred-suc}
use lib.Ieee.{Float}
use lib.ListN.{length, get_or}
use borrow.Author.Tests.{eqb-true, eq-eqb}
use Rattle.lists.specs.Lists.{first, up_to}
use Rattle.lists.proofs.Bools.{and_left, and_right, is_true, both_ways}
use Rattle.lists.proofs.Members.{keep_of, of_keep, flat_map_of, of_flat_map}
use Rattle.lists.proofs.Places.{of_up, up_of}
use Rattle.lists.proofs.First.{first_found, first_none}
use Rattle.lists.proofs.Mapped.{Each, each_of, of_each}
use Rattle.lists.proofs.Sequences.{get_d_any}
use Rattle.geometry.specs.declared.point.Point.{Point}
use Rattle.geometry.specs.Points.{origin}
use Rattle.geometry.specs.Meshes.{vertex}
use Rattle.mesh_weld.specs.Joining.{Lawful}
use Rattle.mesh_weld.specs.Cells.{Key, key_of, same, same_key, beside, around, near, in_cell, next_to, neighbours, cells}
use Rattle.mesh_weld.proofs.Words.{all_flat}
use Rattle.mesh_weld.proofs.Squares.{near_sym}

-- ---- tests
and_both : (a b : Bool) → a ≡ true → b ≡ true → (a && b) ≡ true
and_both a b p q = rw (p, q)

not_true : (b : Bool) → (b ≡ true → ⊥) → b ≡ false
not_true true h = absurd (h refl)
not_true false h = refl

same_true : (a b : ℤ) → same a b ≡ true → a ≡ b
same_true (pos a) (pos b) e = ap pos (eqb-true a b e)
same_true (pos a) (negsuc b) e = absurd (true≢false (sym e))
same_true (negsuc a) (pos b) e = absurd (true≢false (sym e))
same_true (negsuc a) (negsuc b) e = ap negsuc (eqb-true a b e)

true_same : (a b : ℤ) → a ≡ b → same a b ≡ true
true_same a b e = subst (λ (c : ℤ). same a c ≡ true) e (self a)
  where
    self : (a : ℤ) → same a a ≡ true
    self (pos n) = eq-eqb n n refl
    self (negsuc n) = eq-eqb n n refl

-- ---- neighbours either way
below_above : (a b : ℤ) → same b (pred_ℤ a) ≡ same a (suc_ℤ b)
below_above a b =
    both_ways (same b (pred_ℤ a)) (same a (suc_ℤ b))
    (λ e. true_same a (suc_ℤ b) (sym (ap suc_ℤ (same_true b (pred_ℤ a) e) ∙ suc-pred a)))
    (λ e. true_same b (pred_ℤ a) (sym (ap pred_ℤ (same_true a (suc_ℤ b) e) ∙ pred-suc b)))

pub same_sym : (a b : ℤ) → same a b ≡ same b a
same_sym a b = both_ways (same a b) (same b a) (λ e. true_same b a (sym (same_true a b e))) (λ e. true_same a b (sym (same_true b a e)))

turn_or : (a b c : Bool) → (a || (b || c)) ≡ (c || (b || a))
turn_or true true true = refl
turn_or true true false = refl
turn_or true false true = refl
turn_or true false false = refl
turn_or false true true = refl
turn_or false true false = refl
turn_or false false true = refl
turn_or false false false = refl

beside_sym : (a b : ℤ) → next_to a b ≡ next_to b a
beside_sym a b =
    rw (below_above a b, same_sym b a, ← below_above b a)
    (turn_or (same a (suc_ℤ b)) (same a b) (same a (pred_ℤ b)))

neighbours_sym : (a b : Key) → neighbours a b ≡ neighbours b a
unfolding neighbours
neighbours_sym a b = rw (beside_sym a.x b.x, beside_sym a.y b.y, beside_sym a.z b.z)

-- ---- the 27 cells are the neighbours
or_cases : (a b c : Bool) → (a || (b || c)) ≡ true → (a ≡ true) ⊎ ((b ≡ true) ⊎ (c ≡ true))
or_cases true b c e = inl refl
or_cases false true c e = inr (inl refl)
or_cases false false c e = inr (inr e)

or_first : (a b c : Bool) → a ≡ true → (a || (b || c)) ≡ true
or_first a b c e = rw e

or_second : (a b c : Bool) → b ≡ true → (a || (b || c)) ≡ true
or_second true b c e = refl
or_second false b c e = rw e

or_third : (a b c : Bool) → c ≡ true → (a || (b || c)) ≡ true
or_third true b c e = refl
or_third false true c e = refl
or_third false false c e = e

beside_all : (a b : ℤ) → Each (λ x. same b x ≡ true → next_to a b ≡ true) (beside a)
beside_all a b = (
  or_first (same b (pred_ℤ a)) (same b a) (same b (suc_ℤ a)),
  (
    or_second (same b (pred_ℤ a)) (same b a) (same b (suc_ℤ a)),
    (or_third (same b (pred_ℤ a)) (same b a) (same b (suc_ℤ a)), tt),
  ),
)

around_sound : (k q : Key) → Each (λ c. same_key q c ≡ true → neighbours k q ≡ true) (around k)
unfolding around same_key neighbours
around_sound k q =
    all_flat (λ x. same q.x x ≡ true → next_to k.x q.x ≡ true) (λ c. same_key q c ≡ true → neighbours k q ≡ true)
    (λ x. flat_map (λ y. flat_map (λ z. record { x = x; y = y; z = z } ∷ []) (beside k.z)) (beside k.y))
    (λ x px. all_flat (λ y. same q.y y ≡ true → next_to k.y q.y ≡ true) (λ c. same_key q c ≡ true → neighbours k q ≡ true)
    (λ y. flat_map (λ z. record { x = x; y = y; z = z } ∷ []) (beside k.z))
    (λ y py. all_flat (λ z. same q.z z ≡ true → next_to k.z q.z ≡ true) (λ c. same_key q c ≡ true → neighbours k q ≡ true) (λ z. record { x = x; y = y; z = z } ∷ [])
    (λ z pz. (
      λ e.
          let r = and_right (same q.x x) (same q.y y && same q.z z) e in
          and_both (next_to k.x q.x) (next_to k.y q.y && next_to k.z q.z)
          (px (and_left (same q.x x) (same q.y y && same q.z z) e))
          (and_both (next_to k.y q.y) (next_to k.z q.z) (py (and_left (same q.y y) (same q.z z) r)) (pz (and_right (same q.y y) (same q.z z) r))),
      tt,
    ))
    (beside k.z) (beside_all k.z q.z))
    (beside k.y) (beside_all k.y q.y))
    (beside k.x) (beside_all k.x q.x)

-- from all of a list of lists to all of each
all_split : {A : Type 0} (P : A → Type 0) (xs ys : List A) → Each P (xs ++ ys) → Each P xs × Each P ys
all_split P [] ys p = (tt, p)
all_split P (x ∷ xs) ys p = let r = all_split P xs ys p.1 in ((p.0, r.0), r.1)

flat_all : {A B : Type 0} (P : B → Type 0) (f : A → List B) (xs : List A) → Each P (flat_map f xs) → Each (λ a. Each P (f a)) xs
unfolding flat_map
flat_all P f [] p = tt
flat_all P f (x ∷ xs) p = let r = all_split P (f x) (flat_map f xs) p in (r.0, flat_all P f xs r.1)

-- what holds of the three keys beside a holds of one that is the same as b
beside_one : (P : ℤ → Type 0) (Q : Type 0) (a b : ℤ) → next_to a b ≡ true → Each P (beside a) → ((x : ℤ) → same b x ≡ true → P x → Q) → Q
beside_one P Q a b e p f =
    ⊎_elim (λ h. f (pred_ℤ a) h p.0) (λ r. ⊎_elim (λ h. f a h p.1.0) (λ h. f (suc_ℤ a) h p.1.1.0) r)
    (or_cases (same b (pred_ℤ a)) (same b a) (same b (suc_ℤ a)) e)

around_complete : (k q : Key) (Q : Type 0) → neighbours k q ≡ true → Each (λ c. same_key q c ≡ true → Q) (around k) → Q
unfolding around same_key neighbours
around_complete k q Q e p =
    let r = and_right (next_to k.x q.x) (next_to k.y q.y && next_to k.z q.z) e in
    let R : Key → Type 0 = λ c. same_key q c ≡ true → Q in
    beside_one (λ x. Each R (flat_map (λ y. flat_map (λ z. record { x = x; y = y; z = z } ∷ []) (beside k.z)) (beside k.y))) Q k.x q.x
    (and_left (next_to k.x q.x) (next_to k.y q.y && next_to k.z q.z) e)
    (flat_all R (λ x. flat_map (λ y. flat_map (λ z. record { x = x; y = y; z = z } ∷ []) (beside k.z)) (beside k.y)) (beside k.x) p)
    (λ x sx px.
    beside_one (λ y. Each R (flat_map (λ z. record { x = x; y = y; z = z } ∷ []) (beside k.z))) Q k.y q.y
    (and_left (next_to k.y q.y) (next_to k.z q.z) r)
    (flat_all R (λ y. flat_map (λ z. record { x = x; y = y; z = z } ∷ []) (beside k.z)) (beside k.y) px)
    (λ y sy py.
    beside_one (λ z. Each R (record { x = x; y = y; z = z } ∷ [])) Q k.z q.z
    (and_right (next_to k.y q.y) (next_to k.z q.z) r)
    (flat_all R (λ z. record { x = x; y = y; z = z } ∷ []) (beside k.z) py)
    (λ z sz pz. pz.0 (and_both (same q.x x) (same q.y y && same q.z z) sx (and_both (same q.y y) (same q.z z) sy sz)))))

-- ---- the laws

module _ (eps : Float) (p : Point) (l : List Point) where
  -- the cells around p, its test, and what the cells hold
  abbrev here : Key
  here = key_of eps p

  abbrev near_at : ℕ → Bool
  near_at k = near eps p (vertex l k)

  abbrev held : List ℕ
  held = flat_map (in_cell eps l) (around here)

  abbrev Joins : Point → Bool
  Joins q = neighbours here (key_of eps q) && near eps p q

  found_joins : (k : ℕ) → first near_at held ≡ Some k → (k < length l) × (Joins (get_or l k p) ≡ true)
  found_joins k e =
      let r = first_found near_at held k e in
      let s = of_flat_map (in_cell eps l) (around here) r.0 in
      let t = of_keep (λ j. same_key (key_of eps (vertex l j)) s.0) (up_to (length l)) s.2 in
      let low : k < length l = omega (arith, (of_up 0 (length l) t.0).1) in (
        low,
        subst (λ (q : Point). Joins q ≡ true) (get_d_any l k origin p low)
            (and_both (neighbours here (key_of eps (vertex l k))) (near_at k)
            (of_each (λ c. same_key (key_of eps (vertex l k)) c ≡ true → neighbours here (key_of eps (vertex l k)) ≡ true) s.1 (around_sound here (key_of eps (vertex l k)))
            (is_true (same_key (key_of eps (vertex l k)) s.0) t.1))
            r.1),
      )

  none_joins : first near_at held ≡ None → (k : ℕ) → k < length l → Joins (get_or l k p) ≡ false
  none_joins e k h =
      subst (λ (q : Point). Joins q ≡ false) (get_d_any l k origin p h)
      (not_true (Joins (vertex l k)) (λ j.
      around_complete here (key_of eps (vertex l k)) ⊥ (and_left (neighbours here (key_of eps (vertex l k))) (near_at k) j)
      (each_of (λ c. same_key (key_of eps (vertex l k)) c ≡ true → ⊥) (around here)
      (λ c m s. true≢false
      (sym (and_right (neighbours here (key_of eps (vertex l k))) (near_at k) j)
      ∙ first_none near_at held e
      (flat_map_of (in_cell eps l) m (keep_of (λ i. same_key (key_of eps (vertex l i)) c) (up_of 0 (length l) (omega arith) (omega arith)) (subst T (sym s) tt))))))))

pub lawful : (eps : Float) → Lawful Point (cells eps)
unfolding cells
lawful eps =
    record {
      symmetric = λ p q. rw (neighbours_sym (key_of eps p) (key_of eps q), near_sym eps p q);
      found = λ p l k e. found_joins eps p l k e;
      none = λ p l e k h. none_joins eps p l e k h;
    }
