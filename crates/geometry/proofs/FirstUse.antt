-- Numbers given out by first use (`enter`), told without the table: by the list of those that got a new number, each once, in the order of their first use.
-- Some have a number from the start (1 more of it in `given`); `cs` are those used. Assumes nothing.
--   enter_new, enter_old, enter_cases, enter_length, enter_stays, entered   one more use: what is given stays, and the one used has a number
--   news, number_in   those that got a new number, and the number of each
--   news_points      the points: those there were, and behind them those of `news`
--   news_numbers     the numbers of those used
use Prim.Native.Nat.{ℕ, zero, suc, ◌+◌, ◌-◌, ◌<◌}
use native.Mathlib.Decide.{ℕ_discrete}
use native.Mathlib.Omega.{arith}
use mathlib.Core.Path.{◌≡◌, refl, sym, ap, subst, ◌∙◌}
use mathlib.Core.Bool.{Bool, true, false, cond, ◌||◌, or-false, or-true, or_comm}
use mathlib.Core.List.{List, [], ◌∷◌, ◌++◌, map, map-append, foldl, append-nil, append_assoc}
use lib.Dec.{eqb}
use lib.ListN.{length, get_or, set, length-set, length-map, length-append}
use lib.Seq.{get_or-set_same, get_or-set_other}
use borrow.Author.Tests.{eqb-true, eq-eqb, ne_eqb}
use Rattle.lists.specs.Lists.{has, place, keep, distinct, distinct_from}
use Rattle.lists.proofs.Mapped.{Each, each_map}
use Rattle.lists.proofs.Sequences.{some_append, place_front, place_behind}
use Rattle.geometry.specs.declared.point.Point.{Point}
use Rattle.geometry.specs.FirstUse.{Named, new_number, enter}

-- ---- one more use
module _ (at : ℕ → Point) (n : Named) (v : ℕ) where
  abbrev next : Named
  next = record { given = set n.given v (length n.points + 1); points = n.points ++ (at v ∷ []) }

  pub enter_new : get_or n.given v 0 ≡ 0 → enter at n v ≡ next
  unfolding enter
  enter_new h = ap (λ (b : Bool). cond b next n) (eq-eqb (get_or n.given v 0) 0 h)

  pub enter_old : 0 < get_or n.given v 0 → enter at n v ≡ n
  unfolding enter
  enter_old h = ap (λ (b : Bool). cond b next n) (ne_eqb (get_or n.given v 0) 0 (λ e. omega arith))

  -- what holds of a new number and of an old one holds of the one entered
  pub enter_cases : (P : Named → Type 0) → (get_or n.given v 0 ≡ 0 → P next) → (0 < get_or n.given v 0 → P n) → P (enter at n v)
  enter_cases P f g = go (get_or n.given v 0) refl
    where
      go : (k : ℕ) → get_or n.given v 0 ≡ k → P (enter at n v)
      go zero e = subst P (sym (enter_new e)) (f e)
      go (suc k) e = subst P (sym (enter_old (omega arith))) (g (omega arith))

  pub enter_length : length (enter at n v).given ≡ length n.given
  enter_length = enter_cases (λ m. length m.given ≡ length n.given) (λ h. length-set n.given v (length n.points + 1)) (λ h. refl)

  pub enter_stays : (w : ℕ) → 0 < get_or n.given w 0 → get_or (enter at n v).given w 0 ≡ get_or n.given w 0
  enter_stays w h =
      enter_cases (λ m. get_or m.given w 0 ≡ get_or n.given w 0)
      (λ e. get_or-set_other n.given v w (length n.points + 1) 0 (λ d. omega (arith, ap (λ (x : ℕ). get_or n.given x 0) d)))
      (λ e. refl)

  pub entered : v < length n.given → 0 < get_or (enter at n v).given v 0
  entered h = enter_cases (λ m. 0 < get_or m.given v 0) (λ e. omega (arith, get_or-set_same n.given v (length n.points + 1) 0 h)) (λ e. e)

-- ---- all uses

module _ (at : ℕ → Point) (given : List ℕ) (points : List Point) where
  abbrev bare : ℕ → Bool
  bare v = eqb (get_or given v 0) 0

  abbrev pub news : List ℕ → List ℕ
  news cs = distinct eqb (keep bare cs)

  abbrev pub number_in : List ℕ → ℕ → ℕ
  number_in new v = cond (bare v) (length points + place (eqb v) new) (get_or given v 0 - 1)

  -- the table says of each its first number, or its place in the list behind the points there were, plus one, or 0 where it has none
  record Tells (n : Named) (new : List ℕ) : Type 0 where
    long : length n.given ≡ length given
    points_are : n.points ≡ points ++ map at new
    given_at_lem : (v : ℕ) → v < length given
        → get_or n.given v 0 ≡ cond (bare v) (cond (has new v) (length points + place (eqb v) new + 1) 0) (get_or given v 0)

  count : (n : Named) (new : List ℕ) → Tells n new → length n.points ≡ length points + length new
  count n new t = ap length t.points_are ∙ length-append points (map at new) ∙ ap (λ (k : ℕ). length points + k) (length-map new at)

  -- the entry of one that has a number from the start, and of one that has none
  of_own : (n : Named) (new : List ℕ) (v : ℕ) → Tells n new → v < length given → bare v ≡ false → get_or n.given v 0 ≡ get_or given v 0
  of_own n new v t h b = t.given_at_lem v h ∙ ap (λ (x : Bool). cond x (cond (has new v) (length points + place (eqb v) new + 1) 0) (get_or given v 0)) b

  of_bare : (n : Named) (new : List ℕ) (v : ℕ) → Tells n new → v < length given → bare v ≡ true
      → get_or n.given v 0 ≡ cond (has new v) (length points + place (eqb v) new + 1) 0
  of_bare n new v t h b = t.given_at_lem v h ∙ ap (λ (x : Bool). cond x (cond (has new v) (length points + place (eqb v) new + 1) 0) (get_or given v 0)) b

  not_zero : (k : ℕ) → eqb k 0 ≡ false → 0 < k
  not_zero k e = go (ℕ_discrete k 0)
    where
      go : Dec (k ≡ 0) → 0 < k
      go (yes q) = let b = eq-eqb k 0 q in let z : ◌≡◌ {A = ℕ} 0 1 = ap (λ (x : Bool). cond x 0 1) (sym b ∙ e) in absurd (omega arith)
      go (no q) = omega arith

  tells_own : (n : Named) (new : List ℕ) (x : ℕ) → Tells n new → x < length given → bare x ≡ false → enter at n x ≡ n
  tells_own n new x t h b = let g = of_own n new x t h b in let z = not_zero (get_or given x 0) b in enter_old at n x (omega arith)

  tells_old : (n : Named) (new : List ℕ) (x : ℕ) → Tells n new → x < length given → bare x ≡ true → has new x ≡ true → enter at n x ≡ n
  tells_old n new x t h b e =
      let g = of_bare n new x t h b ∙ ap (λ (y : Bool). cond y (length points + place (eqb x) new + 1) 0) e in
      enter_old at n x (omega arith)

  tells_new : (n : Named) (new : List ℕ) (x : ℕ) → Tells n new → x < length given → bare x ≡ true → has new x ≡ false → Tells (enter at n x) (new ++ (x ∷ []))
  unfolding place
  tells_new n new x t h b e =
      subst (λ (q : Named). Tells q (new ++ (x ∷ []))) (sym (enter_new at n x none))
      (record {
        long = length-set n.given x (length n.points + 1) ∙ t.long;
        points_are = ap (λ (l : List Point). l ++ (at x ∷ [])) t.points_are ∙ append_assoc points (map at new) (at x ∷ [])
            ∙ ap (λ (l : List Point). points ++ l) (sym (map-append at new (x ∷ [])));
        given_at_lem = λ v g. go v g (ℕ_discrete v x);
      })
    where
      none : get_or n.given x 0 ≡ 0
      none = of_bare n new x t h b ∙ ap (λ (y : Bool). cond y (length points + place (eqb x) new + 1) 0) e

      has_more : (v : ℕ) → has (new ++ (x ∷ [])) v ≡ (has new v || eqb v x)
      has_more v = some_append (eqb v) new (x ∷ []) ∙ ap (λ (y : Bool). has new v || y) (or-false (eqb v x))

      other : (v : ℕ) (y : Bool) → has new v ≡ y → (v ≡ x → ⊥)
          → cond y (length points + place (eqb v) new + 1) 0 ≡ cond (y || eqb v x) (length points + place (eqb v) (new ++ (x ∷ [])) + 1) 0
      other v true i q = ap (λ (k : ℕ). length points + k + 1) (sym (place_front (eqb v) new (x ∷ []) i))
      other v false i q = sym (ap (λ (y : Bool). cond y (length points + place (eqb v) (new ++ (x ∷ [])) + 1) 0) (ne_eqb v x q))

      last : (v : ℕ) → v ≡ x → length new ≡ place (eqb v) (new ++ (x ∷ []))
      last v q =
          let p = place_behind (eqb v) new (x ∷ []) (ap (has new) q ∙ e) in
          let z : place (eqb v) (x ∷ []) ≡ 0 = ap (λ (y : Bool). cond y 0 1) (eq-eqb v x q) in
          omega arith

      go : (v : ℕ) → v < length given → Dec (v ≡ x)
          → get_or (set n.given x (length n.points + 1)) v 0
          ≡ cond (bare v) (cond (has (new ++ (x ∷ [])) v) (length points + place (eqb v) (new ++ (x ∷ [])) + 1) 0) (get_or given v 0)
      go v g (yes q) =
          ap (λ (k : ℕ). get_or (set n.given k (length n.points + 1)) v 0) (sym q)
          ∙ get_or-set_same n.given v (length n.points + 1) 0 (omega (arith, t.long))
          ∙ (let c = count n new t in let l = last v q in omega arith)
          ∙ sym (ap (λ (y : Bool). cond y (cond (has (new ++ (x ∷ [])) v) (length points + place (eqb v) (new ++ (x ∷ [])) + 1) 0) (get_or given v 0)) (ap bare q ∙ b)
          ∙ ap (λ (y : Bool). cond y (length points + place (eqb v) (new ++ (x ∷ [])) + 1) 0)
          (has_more v ∙ ap (λ (y : Bool). has new v || y) (eq-eqb v x q) ∙ or-true (has new v)))
      go v g (no q) =
          get_or-set_other n.given x v (length n.points + 1) 0 q ∙ t.given_at_lem v g
          ∙ ap (λ (k : ℕ). cond (bare v) k (get_or given v 0))
          (other v (has new v) refl q ∙ sym (ap (λ (y : Bool). cond y (length points + place (eqb v) (new ++ (x ∷ [])) + 1) 0) (has_more v)))

  -- every one of cs in turn, where those in `new` have got a number
  abbrev TellsAll : List ℕ → Type 0
  TellsAll cs = (seen new : List ℕ) (n : Named) → Tells n new → ((v : ℕ) → has seen v ≡ has new v) → Each (λ v. v < length given) cs
      → Tells (foldl (enter at) n cs) (new ++ distinct_from eqb seen (keep bare cs))

  tells_all : (cs : List ℕ) → TellsAll cs
  unfolding distinct_from
  tells_all [] seen new n t same low = subst (Tells n) (sym (append-nil new)) t
  tells_all (x ∷ cs) seen new n t same low = by (tells_all cs) (bare x) refl
    where
      more : (v : ℕ) → has (x ∷ seen) v ≡ (eqb v x || has new v)
      more v = ap (λ (y : Bool). eqb v x || y) (same v)

      held : has new x ≡ true → (v : ℕ) → (eqb v x || has new v) ≡ has new v
      held e v = go (eqb v x) refl
        where
          go : (y : Bool) → eqb v x ≡ y → (y || has new v) ≡ has new v
          go true q = sym (ap (has new) (eqb-true v x q) ∙ e)
          go false q = refl

      turned : (v : ℕ) → (eqb v x || has new v) ≡ has (new ++ (x ∷ [])) v
      turned v = or_comm (eqb v x) (has new v) ∙ sym (some_append (eqb v) new (x ∷ []) ∙ ap (λ (y : Bool). has new v || y) (or-false (eqb v x)))

      found : TellsAll cs → bare x ≡ true → (y : Bool) → has seen x ≡ y
          → Tells (foldl (enter at) (enter at n x) cs)
          (new ++ cond y (distinct_from eqb (x ∷ seen) (keep bare cs)) (x ∷ distinct_from eqb (x ∷ seen) (keep bare cs)))
      found rest b true e =
          let u = sym (same x) ∙ e in
          subst (λ (q : Named). Tells (foldl (enter at) q cs) (new ++ distinct_from eqb (x ∷ seen) (keep bare cs))) (sym (tells_old n new x t low.0 b u))
          (rest (x ∷ seen) new n t (λ v. more v ∙ held u v) low.1)
      found rest b false e =
          subst (Tells (foldl (enter at) (enter at n x) cs)) (append_assoc new (x ∷ []) (distinct_from eqb (x ∷ seen) (keep bare cs)))
          (rest (x ∷ seen) (new ++ (x ∷ [])) (enter at n x) (tells_new n new x t low.0 b (sym (same x) ∙ e)) (λ v. more v ∙ turned v) low.1)

      by : TellsAll cs → (y : Bool) → bare x ≡ y → Tells (foldl (enter at) (enter at n x) cs) (new ++ distinct_from eqb seen (cond y (x ∷ keep bare cs) (keep bare cs)))
      by rest true b = found rest b (has seen x) refl
      by rest false b =
          subst (λ (q : Named). Tells (foldl (enter at) q cs) (new ++ distinct_from eqb seen (keep bare cs))) (sym (tells_own n new x t low.0 b))
          (rest seen new n t same low.1)

  abbrev start : Named
  start = record { given = given; points = points }

  module _ (cs : List ℕ) (low : Each (λ v. v < length given) cs) where
    told : Tells (foldl (enter at) start cs) (news cs)
    told =
        tells_all cs [] [] start
        (record { long = refl; points_are = sym (append-nil points); given_at_lem = λ v h. first (get_or given v 0) })
        (λ v. refl) low
      where
        first : (k : ℕ) → k ≡ cond (eqb k 0) 0 k
        first k = go (eqb k 0) refl
          where
            go : (y : Bool) → eqb k 0 ≡ y → k ≡ cond y 0 k
            go true e = eqb-true k 0 e
            go false e = refl

    pub news_points : (foldl (enter at) start cs).points ≡ points ++ map at (news cs)
    news_points = told.points_are

    number_of : (v : ℕ) → v < length given → 0 < get_or (foldl (enter at) start cs).given v 0 → new_number (foldl (enter at) start cs) v ≡ number_in (news cs) v
    number_of v h z = go (bare v) (has (news cs) v) (told.given_at_lem v h)
      where
        go : (b y : Bool) → get_or (foldl (enter at) start cs).given v 0 ≡ cond b (cond y (length points + place (eqb v) (news cs) + 1) 0) (get_or given v 0)
            → new_number (foldl (enter at) start cs) v ≡ cond b (length points + place (eqb v) (news cs)) (get_or given v 0 - 1)
        go true true e = omega arith
        go true false e = absurd (omega arith)
        go false y e = ap (λ (k : ℕ). k - 1) e

  -- each that is entered has a number from then on
  stays : (cs : List ℕ) (n : Named) (v : ℕ) → 0 < get_or n.given v 0 → 0 < get_or (foldl (enter at) n cs).given v 0
  stays [] n v z = z
  stays (x ∷ cs) n v z = stays cs (enter at n x) v (rw (enter_stays at n x v z) z)

  all_entered : (cs : List ℕ) (n : Named) → length n.given ≡ length given → Each (λ v. v < length given) cs
      → Each (λ v. (v < length given) × (0 < get_or (foldl (enter at) n cs).given v 0)) cs
  all_entered [] n e low = tt
  all_entered (x ∷ cs) n e low = (
    (low.0, stays cs (enter at n x) x (entered at n x (let h = low.0 in omega arith))),
    all_entered cs (enter at n x) (enter_length at n x ∙ e) low.1,
  )

  pub news_numbers : (cs : List ℕ) → Each (λ v. v < length given) cs → Each (λ v. new_number (foldl (enter at) start cs) v ≡ number_in (news cs) v) cs
  news_numbers cs low =
      each_map (λ v. (v < length given) × (0 < get_or (foldl (enter at) start cs).given v 0)) (λ v. new_number (foldl (enter at) start cs) v ≡ number_in (news cs) v)
      (λ v h. number_of cs low v h.0 h.1) cs (all_entered cs start refl low)
