-- Inserting and adding faces, as operations on a pool. Assumes nothing.
--   renewed_twice    a candidate that another was inserted into, and faces added to
--   listed_twice     the lists after two goes;   faces_more   faces added in two goes are added in one
--   insert_faces     inserting with faces is inserting with none and then adding them
--   one_face         a face alone is the list of the faces that are it
use Prim.Native.Nat.{ℕ, zero, suc, ◌<◌}
use native.Mathlib.Omega.{arith}
use mathlib.Core.Path.{◌≡◌, refl, sym, ap, ◌∙◌}
use mathlib.Core.Bool.{Bool, true, false, cond, ◌||◌, or-true, or_assoc}
use mathlib.Core.List.{List, [], ◌∷◌, ◌++◌}
use Rattle.std.specs.Prelude.{Option, None, Some, unwrap_or}
use lib.Dec.{eqb}
use lib.ListN.{get_or, set, length}
use lib.Seq.{get_or-set_same, set-set, get_or-append_seam, set-append_seam}
use borrow.Author.Tests.{eq-eqb}
use Rattle.lists.specs.Lists.{keep, has}
use Rattle.lists.proofs.Sequences.{some_append}
use Rattle.geometry.specs.declared.point.Point.{Point}
use Rattle.geometry.specs.Points.{origin}
use Rattle.geometry.specs.Boxes.{faces}
use Rattle.mesh_weld.specs.Joining.{Joining}
use Rattle.candidate_pool.specs.Pool.{Candidate, Pool, no_candidate, renewed, entered_as, added, listed, place_for, number_for, insert}
use Rattle.candidate_pool.specs.Standing.{candidate}
use Rattle.candidate_pool.specs.Steps.{with_faces}
use Rattle.candidate_pool.proofs.Listing.{faces_same, keep_faces, has_kept, has_added, listed_at}

on_twice : (o a b : List ℕ) → keep (λ f. has (keep (λ g. has o g || has a g) faces) f || has b f) faces ≡ keep (λ f. has o f || has (a ++ b) f) faces
on_twice o a b =
    keep_faces (λ f. has (keep (λ g. has o g || has a g) faces) f || has b f) (λ f. has o f || has (a ++ b) f)
    (λ f h. ap (λ (t : Bool). t || has b f) (has_kept (λ g. has o g || has a g) f h)
    ∙ or_assoc (has o f) (has a f) (has b f)
    ∙ ap (λ (t : Bool). has o f || t) (sym (some_append (eqb f) a b)))

pub renewed_twice : (x : Candidate) (q : Point) (m : ℕ) (a b : List ℕ) → renewed (renewed x (candidate q m a)) (candidate origin 0 b) ≡ renewed x (candidate q m (a ++ b))
unfolding renewed
renewed_twice x q m a b = λ i. record { point = cond (eqb m 0) x.point q; mesh = cond (eqb m 0) x.mesh m; on = on_twice x.on a b i }

-- "push_unique": once more is nothing more
added_twice : (l : List ℕ) (c : ℕ) → added (added l c) c ≡ added l c
added_twice l c =
    ap (λ (t : Bool). cond t (added l c) (added l c ++ (c ∷ [])))
    (has_added l c c ∙ ap (λ (t : Bool). has l c || t) (eq-eqb c c refl) ∙ or-true (has l c))

pub listed_twice : (l : List (List ℕ)) (a b : List ℕ) (c : ℕ) → listed (listed l a c) b c ≡ listed l (a ++ b) c
unfolding listed
listed_twice l a b c =
    faces_same (λ f. cond (has b f) (added (get_or (listed l a c) f []) c) (get_or (listed l a c) f []))
    (λ f. cond (has (a ++ b) f) (added (get_or l f []) c) (get_or l f []))
    (λ f h. ap (λ (r : List ℕ). cond (has b f) (added r c) r) (listed_at l a c f h)
    ∙ go (get_or l f []) (has a f) (has b f)
    ∙ ap (λ (t : Bool). cond t (added (get_or l f []) c) (get_or l f [])) (sym (some_append (eqb f) a b)))
  where
    go : (r : List ℕ) (s t : Bool) → cond t (added (cond s (added r c) r) c) (cond s (added r c) r) ≡ cond (s || t) (added r c) r
    go r true true = added_twice r c
    go r true false = refl
    go r false true = refl
    go r false false = refl

pool_is : {a b : List Candidate} {l r : List (List ℕ)} → a ≡ b → l ≡ r → ◌≡◌ {A = Pool} (record { all = a; lists = l }) (record { all = b; lists = r })
pool_is d e = λ i. record { all = d i; lists = e i }

all_twice : (l : List Candidate) (i : ℕ) (q : Point) (m : ℕ) (a b : List ℕ) → i < length l
    → set (set l i (renewed (get_or l i no_candidate) (candidate q m a))) i
    (renewed (get_or (set l i (renewed (get_or l i no_candidate) (candidate q m a))) i no_candidate) (candidate origin 0 b))
    ≡ set l i (renewed (get_or l i no_candidate) (candidate q m (a ++ b)))
all_twice l i q m a b h =
    let x = renewed (get_or l i no_candidate) (candidate q m a) in
    set-set l i x (renewed (get_or (set l i x) i no_candidate) (candidate origin 0 b))
    ∙ ap (λ (y : Candidate). set l i (renewed y (candidate origin 0 b))) (get_or-set_same l i x no_candidate h)
    ∙ ap (λ (y : Candidate). set l i y) (renewed_twice (get_or l i no_candidate) q m a b)

pub faces_more : (p : Pool) (c : ℕ) (a b : List ℕ) → c < length p.all → with_faces (with_faces p c a) c b ≡ with_faces p c (a ++ b)
faces_more p c a b h = pool_is (all_twice p.all c origin 0 a b h) (listed_twice p.lists a b c)

-- `on` is in face order, and no more than faces
pub insert_faces : (J : Joining Point) (p : Pool) (q : Point) (m : ℕ) (on : List ℕ) → keep (λ f. has on f) faces ≡ on
    → ((i : ℕ) → place_for J p (candidate q m []) ≡ Some i → i < length p.all)
    → with_faces (insert J p (candidate q m [])) (number_for J p (candidate q m [])) on ≡ insert J p (candidate q m on)
unfolding insert number_for renewed
insert_faces J p q m on canonical low = pool_is (go (place_for J p (candidate q m [])) refl) (listed_twice p.lists [] on (number_for J p (candidate q m [])))
  where
    go : (k : Option ℕ) → place_for J p (candidate q m []) ≡ k
        → set (entered_as p.all (candidate q m []) k) (unwrap_or k (length p.all))
        (renewed (get_or (entered_as p.all (candidate q m []) k) (unwrap_or k (length p.all)) no_candidate) (candidate origin 0 on))
        ≡ entered_as p.all (candidate q m on) k
    go None e =
        set-append_seam p.all (candidate q m []) [] (renewed (get_or (p.all ++ (candidate q m [] ∷ [])) (length p.all) no_candidate) (candidate origin 0 on))
        ∙ ap (λ (y : Candidate). p.all ++ (renewed y (candidate origin 0 on) ∷ [])) (get_or-append_seam p.all (candidate q m []) [] no_candidate)
        ∙ ap (λ (o : List ℕ). p.all ++ (candidate q m o ∷ [])) canonical
    go (Some i) e = all_twice p.all i q m [] on (low i e)

pub one_face : (f : ℕ) → f < 6 → keep (λ g. has (f ∷ []) g) faces ≡ f ∷ []
one_face zero h = refl
one_face (suc zero) h = refl
one_face (suc (suc zero)) h = refl
one_face (suc (suc (suc zero))) h = refl
one_face (suc (suc (suc (suc zero)))) h = refl
one_face (suc (suc (suc (suc (suc zero))))) h = refl
one_face (suc (suc (suc (suc (suc (suc f)))))) h = absurd (omega arith)
