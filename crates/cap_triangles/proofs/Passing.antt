-- Test 10 as the loop over the supplied triangles has it. Assumes nothing.
--   has_word       a candidate is in a face's list exactly if its word has the face's bit
--   Passed         the first i triangles are not bad, and `last` is the face of the one before i
--   bad_is         the test by words is that of the definition
--   passed_start, passed_stop, passed_more, passed_end   the loop
use Prim.Native.Nat.{ℕ, ◌+◌, ◌-◌, ◌*◌, ◌/◌, ◌≤◌, ◌<◌}
use mathlib.Core.Path.{◌≡◌, refl, sym, ap, ◌∙◌}
use mathlib.Core.Bool.{Bool, true, false, not, ◌&&◌, ◌||◌}
use mathlib.Core.List.{List}
use native.Mathlib.Omega.{arith}
use native.Mathlib.Decide.{ℕ_discrete}
use borrow.Author.Tests.{le-ltb, ltb-true, ltb-false}
use lib.Dec.{ltb, eqb, nltb→le}
use lib.ListN.{length, get_or}
use Rattle.lists.specs.Lists.{some, has, up_to}
use Rattle.lists.proofs.Bools.{by_test}
use Rattle.lists.proofs.Places.{length_up, at_up}
use Rattle.lists.proofs.Sequences.{place_is, place_all}
use Rattle.geometry.specs.Triangles.{tri, vertices, edges}
use Rattle.box_faces.specs.Faces.{has_bit}
use Rattle.candidate_pool.specs.Offsets.{entry_at}
use Rattle.candidate_pool.specs.Pool.{Pool, Candidate, face_list}
use Rattle.candidate_pool.specs.Standing.{count_at, pool_at}
use Rattle.candidate_pool.proofs.Listing.{has_kept}
use Rattle.candidate_pool.proofs.Reading.{pool_count, pool_at_lem}
use Rattle.candidate_pool.proofs.Tidying.{has_low}
use Rattle.cap_triangles.specs.Selection.{Cap, cap, cap_at, caps_of}
use Rattle.cap_triangles.specs.Listed.{bad_cap, bad_cap_place}
use Rattle.cap_triangles.specs.Room.{Pooled}
use Rattle.cap_triangles.specs.Steps.{listed_in, bad_words}
use Rattle.cap_triangles.proofs.Fours.{caps_length, cap_at_lem}

-- ---- one candidate and one face

module _ (n : ℕ) (w : List ℕ) (pooled : Pooled n w) (f : ℕ) (h : f < 6) (c : ℕ) where
  pub has_word : has (face_list (pool_at n w) f) c ≡ listed_in w f c
  unfolding listed_in
  has_word = go (ltb c (count_at w)) refl
    where
      away : (b : Bool) → has (face_list (pool_at n w) f) c ≡ b → count_at w ≤ c → b ≡ false
      away true e l = absurd (let k = has_low (pool_at n w) pooled.tidy f c h e in let s = pool_count n w in omega arith)
      away false e l = refl

      go : (b : Bool) → ltb c (count_at w) ≡ b → has (face_list (pool_at n w) f) c ≡ (b && has_bit (get_or w (entry_at c + 4) 0) f)
      go true e =
          let l = ltb-true c (count_at w) e in
          pooled.tidy.on f c h (let s = pool_count n w in omega arith)
          ∙ ap (λ (k : Candidate). has k.on f) (pool_at_lem n w c l)
          ∙ has_kept (has_bit (get_or w (entry_at c + 4) 0)) f h
      go false e = away (has (face_list (pool_at n w) f) c) refl (ltb-false c (count_at w) e)

-- ---- one triangle

three_or : (x y z : Bool) → (x || (y || (z || false))) ≡ (x || (y || z))
three_or true y z = refl
three_or false true z = refl
three_or false false true = refl
three_or false false false = refl

three_not : (x y z : Bool) → (not x || (not y || (not z || false))) ≡ not (x && (y && z))
three_not false y z = refl
three_not true false z = refl
three_not true true false = refl
three_not true true true = refl

when_face : (f : ℕ) (p q : Bool) → (f < 6 → p ≡ q) → (ltb 5 f || p) ≡ (ltb 5 f || q)
when_face f p q e = by_test (λ b. (b || p) ≡ (b || q)) (ltb 5 f) (λ t. refl) (λ t. e (let l = nltb→le 5 f t in omega arith))

-- 10's test of a triangle, by the face before it
bad_after : Pool → ℕ → Cap → Bool
bad_after pool last t =
    ltb 5 t.face || (ltb t.face last
    || (some (λ s. eqb s.0 s.1) (edges t.corners)
    || some (λ c. not (has (face_list pool t.face) c)) (vertices t.corners)))

module _ (n : ℕ) (w : List ℕ) (pooled : Pooled n w) where
  words_are : (last f a b c : ℕ) → bad_after (pool_at n w) last (cap f (tri a b c)) ≡ bad_words w last f a b c
  unfolding bad_after bad_words
  words_are last f a b c =
      when_face f _ _
      (λ h.
      let e = three_or (eqb a b) (eqb b c) (eqb c a) in
      let x = has_word n w pooled f h a in
      let y = has_word n w pooled f h b in
      let z = has_word n w pooled f h c in
      let m = three_not (listed_in w f a) (listed_in w f b) (listed_in w f c) in
      ap (λ (s : Bool). ltb f last || (s || (not (has (face_list (pool_at n w) f) a) || (not (has (face_list (pool_at n w) f) b) || (not (has (face_list (pool_at n w) f) c) || false)))))
      e
      ∙ (λ t. ltb f last || ((eqb a b || (eqb b c || eqb c a)) || (not (x t) || (not (y t) || (not (z t) || false)))))
      ∙ ap (λ (s : Bool). ltb f last || ((eqb a b || (eqb b c || eqb c a)) || s)) m)

pub record Passed (n : ℕ) (w cap_list : List ℕ) (i last : ℕ) : Type 0 where
  pub low : i ≤ length cap_list / 4
  pub none : (j : ℕ) → j < i → bad_cap (pool_at n w) (caps_of cap_list) j ≡ false
  pub first : i ≡ 0 → last ≡ 0
  pub before : (j : ℕ) → i ≡ j + 1 → last ≡ get_or cap_list (4 * j) 0

module _ (n : ℕ) (w cap_list : List ℕ) where
  abbrev caps : List Cap
  caps = caps_of cap_list

  abbrev word : ℕ → ℕ
  word j = get_or cap_list j 0

  pub passed_start : Passed n w cap_list 0 0
  passed_start = record { low = omega arith; none = λ j h. absurd (omega arith); first = λ e. refl; before = λ j e. absurd (omega arith) }

  face_is : (i : ℕ) → i < length cap_list / 4 → (cap_at caps i).face ≡ word (4 * i)
  face_is i h = ap (λ (t : Cap). t.face) (cap_at_lem cap_list i h)

  module _ (i last : ℕ) (s : Passed n w cap_list i last) (h : i < length cap_list / 4) where
    -- no face is before the first triangle, and none is less than 0
    descends_is : ltb (word (4 * i)) (cap_at caps (i - 1)).face ≡ ltb (word (4 * i)) last
    descends_is = go (ℕ_discrete i 0)
      where
        go : Dec (i ≡ 0) → ltb (word (4 * i)) (cap_at caps (i - 1)).face ≡ ltb (word (4 * i)) last
        go (yes e) =
            let k : i - 1 ≡ i = omega arith in
            let f : (cap_at caps (i - 1)).face ≡ word (4 * i) = ap (λ (j : ℕ). (cap_at caps j).face) k ∙ face_is i h in
            let z = s.first e in
            le-ltb (word (4 * i)) (cap_at caps (i - 1)).face (omega arith) ∙ sym (le-ltb (word (4 * i)) last (omega arith))
        go (no d) = ap (ltb (word (4 * i))) (face_is (i - 1) (omega arith) ∙ sym (s.before (i - 1) (omega arith)))

    pub bad_is : Pooled n w → bad_cap (pool_at n w) caps i ≡ bad_words w last (word (4 * i)) (word (4 * i + 1)) (word (4 * i + 2)) (word (4 * i + 3))
    unfolding bad_cap bad_after
    bad_is pooled =
        ap (bad_after (pool_at n w) (cap_at caps (i - 1)).face) (cap_at_lem cap_list i h)
        ∙ ap (λ (b : Bool). ltb 5 (word (4 * i)) || (b || (some (λ s. eqb s.0 s.1) (edges (tri (word (4 * i + 1)) (word (4 * i + 2)) (word (4 * i + 3))))
        || some (λ c. not (has (face_list (pool_at n w) (word (4 * i))) c)) (vertices (tri (word (4 * i + 1)) (word (4 * i + 2)) (word (4 * i + 3))))))) descends_is
        ∙ words_are n w pooled last (word (4 * i)) (word (4 * i + 1)) (word (4 * i + 2)) (word (4 * i + 3))

    up_is : (j : ℕ) → j < length caps → bad_cap (pool_at n w) caps (get_or (up_to (length caps)) j 0) ≡ bad_cap (pool_at n w) caps j
    up_is j l = ap (bad_cap (pool_at n w) caps) (at_up 0 (length caps) j l ∙ omega arith)

    pub passed_stop : Pooled n w → bad_words w last (word (4 * i)) (word (4 * i + 1)) (word (4 * i + 2)) (word (4 * i + 3)) ≡ true
        → (i ≡ bad_cap_place (pool_at n w) caps) × (i < length caps)
    unfolding bad_cap_place
    passed_stop pooled e =
        let l = caps_length cap_list in
        let u = length_up 0 (length caps) in (
          sym (place_is (bad_cap (pool_at n w) caps) 0 (up_to (length caps)) i (omega arith) (λ j k. up_is j (omega arith) ∙ s.none j k) (up_is i (omega arith) ∙ bad_is pooled ∙ e)),
          omega arith,
        )

    pub passed_more : Pooled n w → bad_words w last (word (4 * i)) (word (4 * i + 1)) (word (4 * i + 2)) (word (4 * i + 3)) ≡ false → Passed n w cap_list (i + 1) (word (4 * i))
    passed_more pooled e =
        record {
          low = omega arith;
          none = λ j k. go j k (ℕ_discrete j i);
          first = λ z. absurd (omega arith);
          before = λ j k. ap (λ (x : ℕ). word (4 * x)) (omega arith);
        }
      where
        go : (j : ℕ) → j < i + 1 → Dec (j ≡ i) → bad_cap (pool_at n w) caps j ≡ false
        go j k (yes q) = ap (bad_cap (pool_at n w) caps) q ∙ bad_is pooled ∙ e
        go j k (no d) = s.none j (omega arith)

  pub passed_end : (i last : ℕ) → Passed n w cap_list i last → length cap_list / 4 ≤ i → bad_cap_place (pool_at n w) caps ≡ length caps
  unfolding bad_cap_place
  passed_end i last s h =
      let l = caps_length cap_list in
      let u = length_up 0 (length caps) in
      place_all (bad_cap (pool_at n w) caps) 0 (up_to (length caps))
      (λ j k. ap (bad_cap (pool_at n w) caps) (at_up 0 (length caps) j (omega arith) ∙ omega arith) ∙ s.none j (omega arith)) ∙ u
