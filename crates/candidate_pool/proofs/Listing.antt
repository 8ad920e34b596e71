-- Laws of lists over the six faces, and of the numbers that stand in them. Assumes nothing.
--   at_faces, faces_same    a list over the faces, face by face
--   is_face                 the faces are 0 to 5
--   keep_faces, has_kept    the faces that pass a test
--   kept_again              keeping again changes nothing
--   has_one, has_added   what stands in a list that others were added to
--   listed_at, listed_has   the face lists after a candidate was added to some
use Prim.Native.Nat.{ℕ, zero, suc, ◌<◌}
use native.Mathlib.Omega.{arith}
use mathlib.Core.Path.{◌≡◌, refl, sym, ap, ◌∙◌}
use mathlib.Core.Bool.{Bool, true, false, cond, ◌&&◌, ◌||◌, and-true, or-false}
use mathlib.Core.List.{List, [], ◌∷◌, ◌++◌, map}
use lib.Dec.{eqb}
use lib.ListN.{get_or}
use borrow.Author.Tests.{eqb-true}
use Rattle.lists.specs.Lists.{keep, has, up_from}
use Rattle.lists.proofs.Counts.{keep_same}
use Rattle.lists.proofs.Places.{of_up}
use Rattle.lists.proofs.Sequences.{some_append}
use Rattle.geometry.specs.Boxes.{faces}
use Rattle.candidate_pool.specs.Pool.{added, listed}

pub at_faces : {A : Type 0} (g : ℕ → A) (d : A) (f : ℕ) → f < 6 → get_or (map g faces) f d ≡ g f
at_faces g d zero h = refl
at_faces g d (suc zero) h = refl
at_faces g d (suc (suc zero)) h = refl
at_faces g d (suc (suc (suc zero))) h = refl
at_faces g d (suc (suc (suc (suc zero)))) h = refl
at_faces g d (suc (suc (suc (suc (suc zero))))) h = refl
at_faces g d (suc (suc (suc (suc (suc (suc f)))))) h = absurd (omega arith)

pub faces_same : {A : Type 0} (g k : ℕ → A) → ((f : ℕ) → f < 6 → g f ≡ k f) → map g faces ≡ map k faces
faces_same g k e =
    λ i. e 0 (omega arith) i ∷ e 1 (omega arith) i ∷ e 2 (omega arith) i ∷ e 3 (omega arith) i ∷ e 4 (omega arith) i ∷ e 5 (omega arith) i ∷ []

pub keep_faces : (p q : ℕ → Bool) → ((f : ℕ) → f < 6 → p f ≡ q f) → keep p faces ≡ keep q faces
unfolding up_from
keep_faces p q e = keep_same p q faces (λ f m. e f (of_up 0 6 m).1)

-- ---- what stands in a list

pub has_one : (c k : ℕ) → has (c ∷ []) k ≡ eqb k c
has_one c k = or-false (eqb k c)

pub has_added : (l : List ℕ) (c k : ℕ) → has (added l c) k ≡ (has l k || eqb k c)
has_added l c k = go (has l c) refl
  where
    or_true : (b : Bool) → b ≡ true → b ≡ (b || true)
    or_true b e = e ∙ sym (ap (λ (a : Bool). a || true) e)

    there : (b : Bool) → eqb k c ≡ b → has l c ≡ true → has l k ≡ (has l k || b)
    there true e t = or_true (has l k) (ap (λ (x : ℕ). has l x) (eqb-true k c e) ∙ t)
    there false e t = sym (or-false (has l k))

    go : (b : Bool) → has l c ≡ b → has (cond (has l c) l (l ++ (c ∷ []))) k ≡ (has l k || eqb k c)
    go true e = ap (λ (b : Bool). has (cond b l (l ++ (c ∷ []))) k) e ∙ there (eqb k c) refl e
    go false e = ap (λ (b : Bool). has (cond b l (l ++ (c ∷ []))) k) e ∙ some_append (eqb k) l (c ∷ []) ∙ ap (λ (b : Bool). has l k || b) (has_one c k)

has_keep : (t : ℕ → Bool) (l : List ℕ) (k : ℕ) → has (keep t l) k ≡ (t k && has l k)
has_keep t [] k = sym (none (t k))
  where
    none : (b : Bool) → (b && false) ≡ false
    none true = refl
    none false = refl
has_keep t (x ∷ l) k = go (t x) refl (eqb k x) refl (has_keep t l k)
  where
    go : (b : Bool) → t x ≡ b → (e : Bool) → eqb k x ≡ e → has (keep t l) k ≡ (t k && has l k) → has (cond (t x) (x ∷ keep t l) (keep t l)) k ≡ (t k && (eqb k x || has l k))
    go true b true e r = rw (b, e) (sym (ap (λ (a : Bool). a && true) (ap t (eqb-true k x e) ∙ b)))
    go true b false e r = rw (b, e) r
    go false b true e r = rw (b, e) (r ∙ ap (λ (a : Bool). a && has l k) (ap t (eqb-true k x e) ∙ b) ∙ sym (ap (λ (a : Bool). a && true) (ap t (eqb-true k x e) ∙ b)))
    go false b false e r = rw (b, e) r

pub is_face : (f : ℕ) → f < 6 → has faces f ≡ true
is_face zero h = refl
is_face (suc zero) h = refl
is_face (suc (suc zero)) h = refl
is_face (suc (suc (suc zero))) h = refl
is_face (suc (suc (suc (suc zero)))) h = refl
is_face (suc (suc (suc (suc (suc zero))))) h = refl
is_face (suc (suc (suc (suc (suc (suc f)))))) h = absurd (omega arith)

pub has_kept : (t : ℕ → Bool) (f : ℕ) → f < 6 → has (keep t faces) f ≡ t f
has_kept t f h = has_keep t faces f ∙ ap (λ (b : Bool). t f && b) (is_face f h) ∙ and-true (t f)

pub kept_again : (t : ℕ → Bool) → keep (λ f. has (keep t faces) f) faces ≡ keep t faces
kept_again t = keep_faces (λ f. has (keep t faces) f) t (has_kept t)

-- ---- the face lists

pub listed_at : (lists : List (List ℕ)) (on : List ℕ) (c f : ℕ) → f < 6 → get_or (listed lists on c) f [] ≡ cond (has on f) (added (get_or lists f []) c) (get_or lists f [])
unfolding listed
listed_at lists on c f h = at_faces (λ f. cond (has on f) (added (get_or lists f []) c) (get_or lists f [])) [] f h

pub listed_has : (lists : List (List ℕ)) (on : List ℕ) (c f k : ℕ) → f < 6 → has (get_or (listed lists on c) f []) k ≡ (has (get_or lists f []) k || (has on f && eqb k c))
listed_has lists on c f k h = ap (λ (l : List ℕ). has l k) (listed_at lists on c f h) ∙ go (has on f)
  where
    go : (b : Bool) → has (cond b (added (get_or lists f []) c) (get_or lists f [])) k ≡ (has (get_or lists f []) k || (b && eqb k c))
    go true = has_added (get_or lists f []) c k
    go false = sym (or-false (has (get_or lists f []) k))
