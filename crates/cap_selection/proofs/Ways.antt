-- Laws of pairs and of the ways they run, whatever room they stand in. Assumes nothing.
--   yes                   a fact as a yes
--   some_or                one of two tests passes
--   down_against, up_against   an open edge of a side's pair that runs the other way, by which way the side runs
--   side_of, sides_at       side s of the triangles; and the sides of triangle i
--   seed_parts             an open edge is held backwards by one of three sides
use Prim.Native.Nat.{ℕ, zero, suc, ◌+◌, ◌*◌, ◌<◌}
use native.Mathlib.Omega.{arith}
use mathlib.Core.Path.{◌≡◌, refl, ap, ◌∙◌}
use mathlib.Core.Bool.{Bool, true, false, ◌&&◌, ◌||◌}
use mathlib.Core.List.{List, [], ◌∷◌, map, flat_map}
use mathlib.Core.Logic.{inr, ⊎_elim}
use borrow.Author.Tests.{ltb-true, lt-ltb, eqb-true, eq-eqb}
use lib.Dec.{eqb, ltb}
use lib.ListN.{length, get_or}
use Rattle.lists.specs.Lists.{some}
use Rattle.lists.proofs.Bools.{and_left, and_right, and_next, both_ways}
use Rattle.lists.proofs.Sequences.{some_same}
use Rattle.geometry.specs.Triangles.{Triangle, edges, contains_oriented_edge}
use Rattle.edges.specs.Edges.{sides, same_pair}
use Rattle.edges.proofs.Keys.{same_pair_lem, pair_same}
use Rattle.cap_triangles.specs.Selection.{Cap, cap_at}
use Rattle.candidate_pool.specs.OpenEdges.{OpenEdge}

-- ---- a fact as a yes

-- ---- tests of a list

module _ {A : Type 0} (p q : A → Bool) where
  swap : (a b c d : Bool) → ((a || b) || (c || d)) ≡ ((a || c) || (b || d))
  swap true b c d = refl
  swap false true true d = refl
  swap false true false d = refl
  swap false false c d = refl

  pub some_or : (l : List A) → some (λ x. p x || q x) l ≡ (some p l || some q l)
  some_or [] = refl
  some_or (x ∷ l) = ap (λ (b : Bool). (p x || q x) || b) (some_or l) ∙ swap (p x) (q x) (some p l) (some q l)

-- ---- the way that a pair runs

-- the side x, y; the open edge b, c
module _ (x y b c : ℕ) where
  backwards : (eqb x c && eqb y b) ≡ true → (x ≡ c) × (y ≡ b)
  backwards e = (eqb-true x c (and_left (eqb x c) (eqb y b) e), eqb-true y b (and_right (eqb x c) (eqb y b) e))

  back : x ≡ c → y ≡ b → (eqb x c && eqb y b) ≡ true
  back e f = and_next (eqb x c) (eqb y b) true (eq-eqb x c e) (eq-eqb y b f)

  pub down_against : x < y → (same_pair (x, y) (b, c) && ltb c b) ≡ (eqb x c && eqb y b)
  down_against h =
      both_ways (same_pair (x, y) (b, c) && ltb c b) (eqb x c && eqb y b)
      (λ e.
      let l = ltb-true c b (and_right (same_pair (x, y) (b, c)) (ltb c b) e) in
      ⊎_elim (λ (s : (x ≡ b) × (y ≡ c)). let u = s.0 in let v = s.1 in absurd (omega arith)) (λ (s : (x ≡ c) × (y ≡ b)). back s.0 s.1)
      (same_pair_lem (x, y) (b, c) (and_left (same_pair (x, y) (b, c)) (ltb c b) e)))
      (λ e.
      let s = backwards e in
      let u = s.0 in
      let v = s.1 in
      and_next (same_pair (x, y) (b, c)) (ltb c b) true (pair_same (x, y) (b, c) (inr s)) (lt-ltb c b (omega arith)))

  pub up_against : y < x → (same_pair (x, y) (b, c) && ltb b c) ≡ (eqb x c && eqb y b)
  up_against h =
      both_ways (same_pair (x, y) (b, c) && ltb b c) (eqb x c && eqb y b)
      (λ e.
      let l = ltb-true b c (and_right (same_pair (x, y) (b, c)) (ltb b c) e) in
      ⊎_elim (λ (s : (x ≡ b) × (y ≡ c)). let u = s.0 in let v = s.1 in absurd (omega arith)) (λ (s : (x ≡ c) × (y ≡ b)). back s.0 s.1)
      (same_pair_lem (x, y) (b, c) (and_left (same_pair (x, y) (b, c)) (ltb b c) e)))
      (λ e.
      let s = backwards e in
      let u = s.0 in
      let v = s.1 in
      and_next (same_pair (x, y) (b, c)) (ltb b c) true (pair_same (x, y) (b, c) (inr s)) (lt-ltb b c (omega arith)))

-- ---- the sides of triangles

abbrev pub corners_of : List Cap → List (Triangle ℕ)
corners_of caps = map (λ t. t.corners) caps

abbrev pub side_of : List Cap → ℕ → ℕ × ℕ
side_of caps s = get_or (sides (corners_of caps)) s (0, 0)

pub sides_at : (caps : List Cap) (i a : ℕ) → i < length caps → a < 3 → side_of caps (i * 3 + a) ≡ get_or (edges (cap_at caps i).corners) a (0, 0)
unfolding flat_map
sides_at [] i a h g = absurd (omega arith)
sides_at (t ∷ caps) zero zero h g = refl
sides_at (t ∷ caps) zero (suc zero) h g = refl
sides_at (t ∷ caps) zero (suc (suc zero)) h g = refl
sides_at (t ∷ caps) zero (suc (suc (suc a))) h g = absurd (omega arith)
sides_at (t ∷ caps) (suc i) a h g =
    let z : suc i * 3 + a ≡ suc (suc (suc (i * 3 + a))) = omega arith in
    ap (side_of (t ∷ caps)) z ∙ sides_at caps i a (omega arith) g

-- the open edge e of the face f runs against the side s
abbrev pub against : ℕ → ℕ × ℕ → OpenEdge → Bool
against f s e = eqb e.face f && (eqb s.0 e.to && eqb s.1 e.from)

pub seed_parts : (boundary : List OpenEdge) (f : ℕ) (t : Triangle ℕ)
    → some (λ e. eqb e.face f && contains_oriented_edge t e.to e.from) boundary
    ≡ (some (against f (t.a, t.b)) boundary || (some (against f (t.b, t.c)) boundary || some (against f (t.c, t.a)) boundary))
unfolding contains_oriented_edge
seed_parts boundary f t =
    some_same (λ e. eqb e.face f && contains_oriented_edge t e.to e.from) (λ e. against f (t.a, t.b) e || (against f (t.b, t.c) e || against f (t.c, t.a) e)) boundary
    (λ e m. spread (eqb e.face f) (eqb t.a e.to && eqb t.b e.from) (eqb t.b e.to && eqb t.c e.from) (eqb t.c e.to && eqb t.a e.from))
    ∙ some_or (against f (t.a, t.b)) (λ e. against f (t.b, t.c) e || against f (t.c, t.a) e) boundary
    ∙ ap (λ (b : Bool). some (against f (t.a, t.b)) boundary || b) (some_or (against f (t.b, t.c)) (against f (t.c, t.a)) boundary)
  where
    spread : (f a b c : Bool) → (f && (a || (b || c))) ≡ ((f && a) || ((f && b) || (f && c)))
    spread true a b c = refl
    spread false a b c = refl
