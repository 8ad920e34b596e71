-- What an insertion leaves and adds: candidates and face lists only grow. Assumes nothing.
--   number_new, number_found   the number of an inserted one, by the place that the rule gives
--   all_new, all_found         the candidates then;   count_new, count_found   how many they are
--   count_grows, count_most    no fewer than before, and at most one more
--   found_low                  what is found is a candidate, under a lawful rule
--   number_low                 the inserted one's number is that of a candidate, under a lawful rule
--   inserted_has               what stands in a face's list then
--   grows                      what stood in a face's list stands there then
--   number_listed              the inserted one stands in the lists of its faces
--   points_kept                one that is no mesh vertex moves no candidate
use Prim.Native.Nat.{ℕ, suc, ◌≤◌, ◌<◌}
use native.Mathlib.Omega.{arith}
use native.Mathlib.Decide.{ℕ_discrete}
use mathlib.Core.Path.{◌≡◌, refl, ap, subst, ◌∙◌}
use mathlib.Core.Bool.{Bool, true, cond, ◌&&◌, ◌||◌, or-true}
use mathlib.Core.List.{List, [], ◌∷◌, ◌++◌, map}
use Rattle.std.specs.Prelude.{Option, None, Some, unwrap_or}
use lib.Dec.{eqb}
use lib.ListN.{get_or, set, length, length-append, length-set, length-map, get_or-append}
use lib.Seq.{get_or-set_same, get_or-set_other}
use borrow.Author.Tests.{eq-eqb}
use Rattle.lists.specs.Lists.{has}
use Rattle.lists.proofs.Bools.{or_stop}
use Rattle.geometry.specs.declared.point.Point.{Point}
use Rattle.mesh_weld.specs.Joining.{Joining, Lawful}
use Rattle.candidate_pool.specs.Pool.{Candidate, Pool, no_candidate, point_of, face_list, renewed, entered_as, place_for, number_for, insert}
use Rattle.candidate_pool.proofs.Listing.{listed_has}

module _ (J : Joining Point) (p : Pool) (e : Candidate) where
  pub number_new : place_for J p e ≡ None → number_for J p e ≡ length p.all
  unfolding number_for
  number_new h = ap (λ (o : Option ℕ). unwrap_or o (length p.all)) h

  pub number_found : (i : ℕ) → place_for J p e ≡ Some i → number_for J p e ≡ i
  unfolding number_for
  number_found i h = ap (λ (o : Option ℕ). unwrap_or o (length p.all)) h

  pub all_new : place_for J p e ≡ None → (insert J p e).all ≡ p.all ++ (e ∷ [])
  unfolding insert
  all_new h = ap (entered_as p.all e) h

  pub all_found : (i : ℕ) → place_for J p e ≡ Some i → (insert J p e).all ≡ set p.all i (renewed (get_or p.all i no_candidate) e)
  unfolding insert
  all_found i h = ap (entered_as p.all e) h

  pub count_new : place_for J p e ≡ None → length (insert J p e).all ≡ suc (length p.all)
  count_new h = ap (length {A = Candidate}) (all_new h) ∙ length-append p.all (e ∷ []) ∙ omega arith

  pub count_found : (i : ℕ) → place_for J p e ≡ Some i → length (insert J p e).all ≡ length p.all
  count_found i h = ap (length {A = Candidate}) (all_found i h) ∙ length-set p.all i (renewed (get_or p.all i no_candidate) e)

  pub count_grows : length p.all ≤ length (insert J p e).all
  count_grows = go (place_for J p e) refl
    where
      go : (k : Option ℕ) → place_for J p e ≡ k → length p.all ≤ length (insert J p e).all
      go None h = omega (arith, count_new h)
      go (Some i) h = omega (arith, count_found i h)

  pub count_most : length (insert J p e).all ≤ suc (length p.all)
  count_most = go (place_for J p e) refl
    where
      go : (k : Option ℕ) → place_for J p e ≡ k → length (insert J p e).all ≤ suc (length p.all)
      go None h = omega (arith, count_new h)
      go (Some i) h = omega (arith, count_found i h)

  pub found_low : Lawful Point J → (i : ℕ) → place_for J p e ≡ Some i → i < length p.all
  found_low lawful i h = omega (arith, (lawful.found e.point (map (λ c. c.point) p.all) i h).0, length-map p.all (λ c. c.point))

  pub number_low : Lawful Point J → number_for J p e < length (insert J p e).all
  number_low lawful = go (place_for J p e) refl
    where
      go : (k : Option ℕ) → place_for J p e ≡ k → number_for J p e < length (insert J p e).all
      go None h = omega (arith, count_new h, number_new h)
      go (Some i) h = omega (arith, count_found i h, number_found i h, found_low lawful i h)

  pub inserted_has : (f c : ℕ) → f < 6 → has (face_list (insert J p e) f) c ≡ (has (face_list p f) c || (has e.on f && eqb c (number_for J p e)))
  unfolding insert
  inserted_has f c h = listed_has p.lists e.on (number_for J p e) f c h

  pub grows : (f c : ℕ) → f < 6 → has (face_list p f) c ≡ true → has (face_list (insert J p e) f) c ≡ true
  grows f c h t = inserted_has f c h ∙ or_stop (has (face_list p f) c) (has e.on f && eqb c (number_for J p e)) t

  pub number_listed : (f : ℕ) → f < 6 → has e.on f ≡ true → has (face_list (insert J p e) f) (number_for J p e) ≡ true
  number_listed f h t =
      inserted_has f (number_for J p e) h
      ∙ ap (λ (b : Bool). has (face_list p f) (number_for J p e) || b)
      (ap (λ (b : Bool). b && eqb (number_for J p e) (number_for J p e)) t ∙ eq-eqb (number_for J p e) (number_for J p e) refl)
      ∙ or-true (has (face_list p f) (number_for J p e))

  pub points_kept : e.mesh ≡ 0 → (c : ℕ) → c < length p.all → point_of (insert J p e) c ≡ point_of p c
  unfolding renewed
  points_kept z c h = go (place_for J p e) refl
    where
      old : (i : ℕ) → (renewed (get_or p.all i no_candidate) e).point ≡ (get_or p.all i no_candidate).point
      old i = ap (λ (b : Bool). cond b (get_or p.all i no_candidate).point e.point) (eq-eqb e.mesh 0 z)

      at : (i : ℕ) → Dec (c ≡ i) → (get_or (set p.all i (renewed (get_or p.all i no_candidate) e)) c no_candidate).point ≡ point_of p c
      at i (yes q) = subst (λ (j : ℕ). (get_or (set p.all j (renewed (get_or p.all j no_candidate) e)) c no_candidate).point ≡ point_of p c) q
          (ap (λ (k : Candidate). k.point) (get_or-set_same p.all c (renewed (get_or p.all c no_candidate) e) no_candidate h) ∙ old c)
      at i (no d) = ap (λ (k : Candidate). k.point) (get_or-set_other p.all i c (renewed (get_or p.all i no_candidate) e) no_candidate d)

      go : (k : Option ℕ) → place_for J p e ≡ k → point_of (insert J p e) c ≡ point_of p c
      go None x = ap (λ (l : List Candidate). (get_or l c no_candidate).point) (all_new x) ∙ ap (λ (k : Candidate). k.point) (get_or-append p.all (e ∷ []) no_candidate c h)
      go (Some i) x = ap (λ (l : List Candidate). (get_or l c no_candidate).point) (all_found i x) ∙ at i (ℕ_discrete c i)
