-- Every pool that is filled by inserting and by adding faces is tidy. Assumes nothing.
--   added_low, added_once   a list that a number was added to: its numbers are low, and no two are the same
--   low_absent              a number above all of a list does not stand in it
--   tidy_none, tidy_insert, tidy_faces   the pool of no candidate, an insertion, faces added
use Prim.Native.Nat.{ℕ, ◌≤◌, ◌<◌}
use native.Mathlib.Omega.{arith}
use native.Mathlib.Decide.{ℕ_discrete}
use mathlib.Core.Path.{◌≡◌, refl, sym, ap, subst, ◌∙◌}
use mathlib.Core.Bool.{Bool, true, false, cond, ◌&&◌, ◌||◌, and-true, or-false, and-false}
use mathlib.Core.List.{List, [], ◌∷◌, ◌++◌}
use Rattle.std.specs.Prelude.{Option, None, Some}
use lib.Dec.{T, eqb}
use lib.ListN.{get_or, set, length, length-append, length-set, get_or-append}
use lib.Seq.{get_or-set_same, get_or-set_other, get_or-append_seam}
use borrow.Author.Tests.{eq-eqb, ne_eqb, eqb-false}
use Rattle.lists.specs.Lists.{has}
use Rattle.lists.proofs.Bools.{by_test}
use Rattle.lists.proofs.Every.{none_at}
use Rattle.lists.proofs.Members.{of_has, mem_get_d}
use Rattle.geometry.specs.declared.point.Point.{Point}
use Rattle.geometry.specs.Points.{origin}
use Rattle.mesh_weld.specs.Joining.{Joining, Lawful}
use Rattle.candidate_pool.specs.Pool.{Candidate, Pool, no_candidate, no_pool, face_list, renewed, added, place_for, number_for, insert}
use Rattle.candidate_pool.specs.Standing.{candidate, Tidy}
use Rattle.candidate_pool.specs.Steps.{with_faces}
use Rattle.candidate_pool.proofs.Listing.{at_faces, has_kept, has_added, listed_at}
use Rattle.candidate_pool.proofs.Growing.{number_new, number_found, all_new, all_found, count_new, count_found, count_grows, number_low, found_low}

abbrev Low : ℕ → List ℕ → Type 0
Low n l = (i : ℕ) → i < length l → get_or l i 0 < n

abbrev Once : List ℕ → Type 0
Once l = (i j : ℕ) → i < j → j < length l → get_or l i 0 ≡ get_or l j 0 → ⊥

last_is : (l : List ℕ) (c : ℕ) → get_or (l ++ (c ∷ [])) (length l) 0 ≡ c
last_is l c = get_or-append_seam l c [] 0

pub added_low : (n : ℕ) (l : List ℕ) (c : ℕ) → Low n l → c < n → Low n (added l c)
added_low n l c low h = go (has l c)
  where
    snoc : (i : ℕ) → i < length (l ++ (c ∷ [])) → Dec (i ≡ length l) → get_or (l ++ (c ∷ [])) i 0 < n
    snoc i k (yes e) = rw e (rw (last_is l c) h)
    snoc i k (no d) = let a : i < length l = omega (arith, length-append l (c ∷ [])) in rw (get_or-append l (c ∷ []) 0 i a) (low i a)

    go : (b : Bool) → Low n (cond b l (l ++ (c ∷ [])))
    go true = low
    go false = λ i k. snoc i k (ℕ_discrete i (length l))

pub added_once : (l : List ℕ) (c : ℕ) → Once l → Once (added l c)
added_once l c once = go (has l c) refl
  where
    snoc : has l c ≡ false → (i j : ℕ) → i < j → j < length (l ++ (c ∷ [])) → Dec (j ≡ length l) → get_or (l ++ (c ∷ [])) i 0 ≡ get_or (l ++ (c ∷ [])) j 0 → ⊥
    snoc absent i j a k (yes e) same =
        let q : i < length l = omega arith in
        eqb-false c (get_or l i 0) (none_at (eqb c) l i 0 absent q)
        (sym (sym (get_or-append l (c ∷ []) 0 i q) ∙ same ∙ ap (λ (x : ℕ). get_or (l ++ (c ∷ [])) x 0) e ∙ last_is l c))
    snoc absent i j a k (no d) same =
        let s : j < length l = omega (arith, length-append l (c ∷ [])) in
        let q : i < length l = omega arith in
        once i j a s (sym (get_or-append l (c ∷ []) 0 i q) ∙ same ∙ get_or-append l (c ∷ []) 0 j s)

    go : (b : Bool) → has l c ≡ b → Once (cond b l (l ++ (c ∷ [])))
    go true e = once
    go false e = λ i j a k. snoc e i j a k (ℕ_discrete j (length l))

pub low_absent : (n : ℕ) (l : List ℕ) → Low n l → has l n ≡ false
low_absent n l low = by_test (λ b. b ≡ false) (has l n) (λ t. absurd (there t)) (λ t. refl)
  where
    there : T (has l n) → ⊥
    there t = let m = mem_get_d 0 (of_has l n t) in omega (arith, low m.0 m.1, m.2)

-- who is in a face's list is a candidate
pub has_low : (p : Pool) → Tidy p → (f c : ℕ) → f < 6 → has (face_list p f) c ≡ true → c < length p.all
has_low p tidy f c h e =
    let r = mem_get_d 0 (of_has (face_list p f) c (subst T (sym e) tt)) in
    let b = tidy.low f r.0 h r.1 in
    let q = r.2 in
    omega arith

-- ---- one step

-- p' is p with the candidate c, perhaps a new one, added to the faces `on`
record Step (p p' : Pool) (c : ℕ) (on : List ℕ) : Type 0 where
  low : c < length p'.all
  more : length p.all ≤ length p'.all
  lists : (f : ℕ) → f < 6 → face_list p' f ≡ cond (has on f) (added (face_list p f) c) (face_list p f)
  kept : (d : ℕ) → d < length p'.all → (d ≡ c → ⊥) → d < length p.all
  others : (d : ℕ) → d < length p.all → (d ≡ c → ⊥) → get_or p'.all d no_candidate ≡ get_or p.all d no_candidate
  own : (f : ℕ) → f < 6 → has (get_or p'.all c no_candidate).on f ≡ (has (face_list p f) c || has on f)

tidy_step : (p p' : Pool) (c : ℕ) (on : List ℕ) → Step p p' c on → Tidy p → Tidy p'
tidy_step p p' c on s t =
    record {
      on = λ f d hf hd. is_on f d hf hd (ℕ_discrete d c);
      low = λ f. λ i hf. subst (λ (l : List ℕ). i < length l → get_or l i 0 < length p'.all) (sym (s.lists f hf)) (lower f hf (has on f) i);
      once = λ f i j hf. subst (λ (l : List ℕ). i < j → j < length l → get_or l i 0 ≡ get_or l j 0 → ⊥) (sym (s.lists f hf)) (just f hf (has on f) i j);
    }
  where
    listed_is : (f d : ℕ) → f < 6 → has (face_list p' f) d ≡ (has (face_list p f) d || (has on f && eqb d c))
    listed_is f d hf = ap (λ (l : List ℕ). has l d) (s.lists f hf) ∙ go (has on f)
      where
        go : (b : Bool) → has (cond b (added (face_list p f) c) (face_list p f)) d ≡ (has (face_list p f) d || (b && eqb d c))
        go true = has_added (face_list p f) c d
        go false = sym (or-false (has (face_list p f) d))

    is_on : (f d : ℕ) → f < 6 → d < length p'.all → Dec (d ≡ c) → has (face_list p' f) d ≡ has (get_or p'.all d no_candidate).on f
    is_on f d hf hd (yes e) =
        listed_is f d hf
        ∙ ap (λ (b : Bool). has (face_list p f) d || (has on f && b)) (eq-eqb d c e)
        ∙ ap (λ (b : Bool). has (face_list p f) d || b) (and-true (has on f))
        ∙ ap (λ (x : ℕ). has (face_list p f) x || has on f) e
        ∙ sym (s.own f hf)
        ∙ ap (λ (x : ℕ). has (get_or p'.all x no_candidate).on f) (sym e)
    is_on f d hf hd (no n) =
        listed_is f d hf
        ∙ ap (λ (b : Bool). has (face_list p f) d || (has on f && b)) (ne_eqb d c n)
        ∙ ap (λ (b : Bool). has (face_list p f) d || b) (and-false (has on f))
        ∙ or-false (has (face_list p f) d)
        ∙ t.on f d hf (s.kept d hd n)
        ∙ ap (λ (x : Candidate). has x.on f) (sym (s.others d (s.kept d hd n) n))

    old_low : (f : ℕ) → f < 6 → Low (length p'.all) (face_list p f)
    old_low f hf i h = omega (arith, t.low f i hf h, s.more)

    lower : (f : ℕ) → f < 6 → (b : Bool) → Low (length p'.all) (cond b (added (face_list p f) c) (face_list p f))
    lower f hf true = added_low (length p'.all) (face_list p f) c (old_low f hf) s.low
    lower f hf false = old_low f hf

    just : (f : ℕ) → f < 6 → (b : Bool) → Once (cond b (added (face_list p f) c) (face_list p f))
    just f hf true = added_once (face_list p f) c (λ i j. t.once f i j hf)
    just f hf false = λ i j. t.once f i j hf

-- ---- the three

pub tidy_none : Tidy no_pool
tidy_none =
    record {
      on = λ f c hf hc. absurd (omega arith);
      low = λ f i hf. subst (λ (l : List ℕ). i < length l → get_or l i 0 < 0) (sym (empty f hf)) (λ h. absurd (omega arith));
      once = λ f i j hf a. subst (λ (l : List ℕ). j < length l → get_or l i 0 ≡ get_or l j 0 → ⊥) (sym (empty f hf)) (λ h. absurd (omega arith));
    }
  where
    empty : (f : ℕ) → f < 6 → face_list no_pool f ≡ []
    empty f hf = at_faces (λ f. []) [] f hf

pub tidy_faces : (p : Pool) (c : ℕ) (on : List ℕ) → c < length p.all → Tidy p → Tidy (with_faces p c on)
unfolding renewed
tidy_faces p c on h t =
    tidy_step p (with_faces p c on) c on
    (record {
      low = rw long h;
      more = rw long (omega arith);
      lists = λ f hf. listed_at p.lists on c f hf;
      kept = λ d hd n. rw long at hd;
      others = λ d hd n. get_or-set_other p.all c d x no_candidate n;
      own = λ f hf.
          ap (λ (y : Candidate). has y.on f) (get_or-set_same p.all c x no_candidate h)
          ∙ has_kept (λ g. has (get_or p.all c no_candidate).on g || has on g) f hf
          ∙ ap (λ (b : Bool). b || has on f) (sym (t.on f c hf h));
    })
    t
  where
    x : Candidate
    x = renewed (get_or p.all c no_candidate) (candidate origin 0 on)

    long : length (set p.all c x) ≡ length p.all
    long = length-set p.all c x

pub tidy_insert : (J : Joining Point) (p : Pool) (e : Candidate) → Lawful Point J → Tidy p → Tidy (insert J p e)
unfolding renewed insert
tidy_insert J p e lawful t =
    tidy_step p (insert J p e) c e.on
    (record {
      low = number_low J p e lawful;
      more = count_grows J p e;
      lists = λ f hf. listed_at p.lists e.on c f hf;
      kept = λ d hd n. kept (place_for J p e) refl d hd n;
      others = λ d hd n. others (place_for J p e) refl d hd n;
      own = λ f hf. own (place_for J p e) refl f hf;
    })
    t
  where
    c : ℕ
    c = number_for J p e

    all : List Candidate
    all = p.all

    kept : (k : Option ℕ) → place_for J p e ≡ k → (d : ℕ) → d < length (insert J p e).all → (d ≡ c → ⊥) → d < length all
    kept None q d hd n = let a = count_new J p e q in let b = number_new J p e q in let m : (d ≡ length all → ⊥) = λ z. n (z ∙ sym b) in omega arith
    kept (Some i) q d hd n = omega (arith, count_found J p e i q)

    others : (k : Option ℕ) → place_for J p e ≡ k → (d : ℕ) → d < length all → (d ≡ c → ⊥) → get_or (insert J p e).all d no_candidate ≡ get_or all d no_candidate
    others None q d hd n = ap (λ (l : List Candidate). get_or l d no_candidate) (all_new J p e q) ∙ get_or-append all (e ∷ []) no_candidate d hd
    others (Some i) q d hd n =
        ap (λ (l : List Candidate). get_or l d no_candidate) (all_found J p e i q)
        ∙ get_or-set_other all i d (renewed (get_or all i no_candidate) e) no_candidate (λ z. n (z ∙ sym (number_found J p e i q)))

    own : (k : Option ℕ) → place_for J p e ≡ k → (f : ℕ) → f < 6 → has (get_or (insert J p e).all c no_candidate).on f ≡ (has (face_list p f) c || has e.on f)
    own None q f hf =
        ap (λ (l : List Candidate). has (get_or l c no_candidate).on f) (all_new J p e q)
        ∙ ap (λ (d : ℕ). has (get_or (all ++ (e ∷ [])) d no_candidate).on f) (number_new J p e q)
        ∙ ap (λ (y : Candidate). has y.on f) (get_or-append_seam all e [] no_candidate)
        ∙ ap (λ (b : Bool). b || has e.on f) (sym (low_absent (length all) (face_list p f) (λ i h. t.low f i hf h)))
        ∙ ap (λ (d : ℕ). has (face_list p f) d || has e.on f) (sym (number_new J p e q))
    own (Some i) q f hf =
        ap (λ (l : List Candidate). has (get_or l c no_candidate).on f) (all_found J p e i q)
        ∙ ap (λ (d : ℕ). has (get_or (set all i (renewed (get_or all i no_candidate) e)) d no_candidate).on f) (number_found J p e i q)
        ∙ ap (λ (y : Candidate). has y.on f) (get_or-set_same all i (renewed (get_or all i no_candidate) e) no_candidate (found_low J p e lawful i q))
        ∙ has_kept (λ g. has (get_or all i no_candidate).on g || has e.on g) f hf
        ∙ ap (λ (b : Bool). b || has e.on f) (sym (t.on f i hf (found_low J p e lawful i q)))
        ∙ ap (λ (d : ℕ). has (face_list p f) d || has e.on f) (sym (number_found J p e i q))
