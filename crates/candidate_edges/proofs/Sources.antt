-- Candidates that mesh vertices became part of (specs/Steps.antt, `Sourced`). Assumes nothing.
--   sourced_none     no candidate
--   sourced_same     the same pool and words
--   sourced_kept     inserting a mesh vertex
--   sourced_few      there are no more than vertices
--   sourced_room     there is one fewer, where the rule finds no candidate for a vertex
use Prim.Native.Nat.{ℕ, zero, suc, ◌+◌, ◌≤◌, ◌<◌}
use mathlib.Core.Path.{◌≡◌, refl, sym, ap, ◌∙◌, subst}
use mathlib.Core.Bool.{Bool, true, false, cond, ◌&&◌, true≢false}
use mathlib.Core.List.{List, [], ◌∷◌, ◌++◌, map}
use Rattle.std.specs.Prelude.{Option, None, Some}
use Rattle.std.proofs.lemmas.Option.{none-some}
use native.Mathlib.Omega.{arith}
use native.Mathlib.Decide.{ℕ_discrete}
use borrow.Author.Tests.{eq-eqb, ne_eqb}
use lib.Dec.{T, eqb}
use lib.ListN.{length, get_or, set, length-map, length-append, length-set, get_or-append}
use lib.Seq.{get_or_at, get_or-set_same, get_or-set_other}
use lib.Ieee.{Float}
use Rattle.lists.specs.Lists.{up_to}
use Rattle.lists.proofs.Bools.{and_left, and_right, is_true}
use Rattle.lists.proofs.Pigeonhole.{pigeonhole}
use Rattle.lists.proofs.Places.{length_up, at_map_up}
use Rattle.lists.proofs.Sequences.{at_map}
use Rattle.geometry.specs.declared.point.Point.{Point}
use Rattle.geometry.specs.Meshes.{vertex}
use Rattle.geometry.specs.Points.{origin}
use Rattle.chains.specs.Links.{link_of, id_in, link_to, FirstFound, First}
use Rattle.chains.proofs.Firsts.{link_to_first, first_link_to, first_new, places_link, id_link}
use Rattle.mesh_weld.specs.Cells.{Key, key_of, same, same_key}
use Rattle.candidate_pool.specs.Pool.{Candidate, Pool, no_candidate, no_pool, point_of, renewed, by_key, place_for, number_for, insert}
use Rattle.candidate_pool.proofs.Rule.{key_symmetric, key_lawful}
use Rattle.candidate_pool.proofs.Growing.{number_new, number_found, all_new, all_found, count_new, count_found, count_most, found_low}
use Rattle.candidate_pool.proofs.KeyWords.{same_is, same_self}
use Rattle.candidate_edges.specs.Steps.{Sourced}

-- ---- keys

key_is_lem : (a b : Key) → same_key a b ≡ true → a ≡ b
unfolding same_key
key_is_lem a b t =
    let x = same_is a.x b.x (and_left (same a.x b.x) (same a.y b.y && same a.z b.z) t) in
    let r = and_right (same a.x b.x) (same a.y b.y && same a.z b.z) t in
    let y = same_is a.y b.y (and_left (same a.y b.y) (same a.z b.z) r) in
    let z = same_is a.z b.z (and_right (same a.y b.y) (same a.z b.z) r) in
    λ i. record { x = x i; y = y i; z = z i }

key_self : (a : Key) → same_key a a ≡ true
unfolding same_key
key_self a = λ i. same_self a.x i && (same_self a.y i && same_self a.z i)

-- ---- the first of a list that passes is so in a list that begins alike

first_stays : {A : Type 0} (t : A → Bool) (d : A) (l l' : List A) → length l ≤ length l' → ((k : ℕ) → k < length l → t (get_or l' k d) ≡ t (get_or l k d))
    → (c : ℕ) → link_to t l ≡ suc c → link_to t l' ≡ suc c
first_stays t d l l' long alike c e =
    let f = (link_to_first t d l).some c e in
    let w = f.within in
    sym (first_link_to t d l' (suc c)
    (record {
      none = λ z. absurd (omega arith);
      some = λ k z.
          subst (FirstFound (λ i. T (t (get_or l' i d))) 0 (length l')) (let q : c ≡ k = omega arith in q)
          (record {
            from = omega arith;
            within = omega arith;
            has = subst T (sym (alike c w)) f.has;
            before = λ j a b has. f.before j a b (subst T (alike j (omega arith)) has);
          });
    }))

-- ---- the rule, by the numbers of candidates

module _ (eps : Float) (p : Pool) where
  abbrev spots : List Point
  spots = map (λ d. d.point) p.all

  spot_at : (q : Point) (c : ℕ) → c < length p.all → get_or spots c q ≡ point_of p c
  spot_at q c h = at_map (λ d. d.point) p.all c no_candidate q h

  spots_long : length spots ≡ length p.all
  spots_long = length-map p.all (λ d. d.point)

  module _ (e : Candidate) where
    link_new : place_for (by_key eps) p e ≡ None → (c : ℕ) → c < length p.all → same_key (key_of eps (point_of p c)) (key_of eps e.point) ≡ false
    unfolding by_key
    link_new z c h =
        key_symmetric (key_of eps (point_of p c)) (key_of eps e.point)
        ∙ ap (λ (q : Point). same_key (key_of eps e.point) (key_of eps q)) (sym (spot_at e.point c h))
        ∙ (key_lawful eps).none e.point spots z c (omega (arith, spots_long))

    link_old : (i : ℕ) → place_for (by_key eps) p e ≡ Some i → key_of eps e.point ≡ key_of eps (point_of p i)
    unfolding by_key
    link_old i z =
        let low = found_low (by_key eps) p e (key_lawful eps) i z in
        key_is_lem (key_of eps e.point) (key_of eps (point_of p i))
        (ap (λ (q : Point). same_key (key_of eps e.point) (key_of eps q)) (sym (spot_at e.point i low))
        ∙ ((key_lawful eps).found e.point spots i z).1)

    link_is : link_to (λ q. same_key (key_of eps q) (key_of eps e.point)) spots ≡ link_of (place_for (by_key eps) p e)
    unfolding by_key
    link_is = places_link (λ q. same_key (key_of eps q) (key_of eps e.point)) origin spots

    place_is : (c : ℕ) → link_to (λ q. same_key (key_of eps q) (key_of eps e.point)) spots ≡ suc c → place_for (by_key eps) p e ≡ Some c
    place_is c h = sym (id_link (place_for (by_key eps) p e)) ∙ ap id_in (sym link_is ∙ h)

-- ---- no candidate, and one more

pub sourced_none : (points : List Point) (eps : Float) (word : ℕ → ℕ) → ((v : ℕ) → v < length points → word v ≡ 0) → Sourced points eps no_pool word
sourced_none points eps word zeros =
    record {
      low = λ c h. absurd (omega arith);
      found = λ v c h e. absurd (omega (arith, zeros v h));
      source = λ c. c;
      within = λ c h. absurd (omega arith);
      names = λ c h. absurd (omega arith);
    }

-- where the words of the vertices are the same
pub sourced_same : (points : List Point) (eps : Float) (p p' : Pool) (word word' : ℕ → ℕ) → p' ≡ p → ((v : ℕ) → v < length points → word' v ≡ word v)
    → Sourced points eps p word → Sourced points eps p' word'
sourced_same points eps p p' word word' e alike s =
    subst (λ (q : Pool). Sourced points eps q word') (sym e)
    (record {
      low = s.low;
      found = λ v c h t. s.found v c h (sym (alike v h) ∙ t);
      source = s.source;
      within = s.within;
      names = λ c h. alike (s.source c) (s.within c h) ∙ s.names c h;
    })

-- what holds of each of a list and of one more
snoc_all : (P : Candidate → Type 0) (l : List Candidate) (x : Candidate) → ((c : ℕ) → c < length l → P (get_or l c no_candidate)) → P x
    → (c : ℕ) → c < length (l ++ (x ∷ [])) → P (get_or (l ++ (x ∷ [])) c no_candidate)
snoc_all P l x old new c h = go (ℕ_discrete c (length l))
  where
    go : Dec (c ≡ length l) → P (get_or (l ++ (x ∷ [])) c no_candidate)
    go (yes q) = subst P (sym (get_or_at l x [] no_candidate c (sym q))) new
    go (no n) = let low : c < length l = omega (arith, length-append l (x ∷ [])) in subst P (sym (get_or-append l (x ∷ []) no_candidate c low)) (old c low)

set_all : (P : Candidate → Type 0) (l : List Candidate) (i : ℕ) (x : Candidate) → ((c : ℕ) → c < length l → P (get_or l c no_candidate)) → P x
    → (c : ℕ) → c < length (set l i x) → P (get_or (set l i x) c no_candidate)
set_all P l i x old new c h = go (ℕ_discrete c i)
  where
    low : c < length l
    low = omega (arith, length-set l i x)

    go : Dec (c ≡ i) → P (get_or (set l i x) c no_candidate)
    go (yes q) = subst (λ (j : ℕ). P (get_or (set l j x) c no_candidate)) q (subst P (sym (get_or-set_same l c x no_candidate low)) new)
    go (no n) = subst P (sym (get_or-set_other l i c x no_candidate n)) (old c low)

module _ (points : List Point) (eps : Float) (p : Pool) (v : ℕ) (on : List ℕ) where
  abbrev entered : Candidate
  entered = record { point = vertex points v; mesh = v + 1; on = on }

  abbrev then : Pool
  then = insert (by_key eps) p entered

  abbrev anew : ℕ → Candidate
  anew i = renewed (get_or p.all i no_candidate) entered

  mesh_anew : (i : ℕ) → (anew i).mesh ≡ v + 1
  unfolding renewed
  mesh_anew i = ap (λ (b : Bool). cond b (get_or p.all i no_candidate).mesh (v + 1)) (ne_eqb (v + 1) 0 (λ z. omega arith))

  point_anew : (i : ℕ) → (anew i).point ≡ vertex points v
  unfolding renewed
  point_anew i = ap (λ (b : Bool). cond b (get_or p.all i no_candidate).point (vertex points v)) (ne_eqb (v + 1) 0 (λ z. omega arith))

  -- the candidates there were keep their keys
  keys_kept : (c : ℕ) → c < length p.all → key_of eps (point_of then c) ≡ key_of eps (point_of p c)
  keys_kept c h = go (place_for (by_key eps) p entered) refl
    where
      at : (i : ℕ) → place_for (by_key eps) p entered ≡ Some i → Dec (c ≡ i) → key_of eps (get_or (set p.all i (anew i)) c no_candidate).point ≡ key_of eps (point_of p c)
      at i z (yes q) =
          subst (λ (j : ℕ). key_of eps (get_or (set p.all j (anew j)) c no_candidate).point ≡ key_of eps (point_of p c)) q
          (ap (λ (k : Candidate). key_of eps k.point) (get_or-set_same p.all c (anew c) no_candidate h)
          ∙ ap (key_of eps) (point_anew c) ∙ link_old eps p entered c (z ∙ ap Some (sym q)))
      at i z (no d) = ap (λ (k : Candidate). key_of eps k.point) (get_or-set_other p.all i c (anew i) no_candidate d)

      go : (k : Option ℕ) → place_for (by_key eps) p entered ≡ k → key_of eps (point_of then c) ≡ key_of eps (point_of p c)
      go None z =
          ap (λ (l : List Candidate). key_of eps (get_or l c no_candidate).point) (all_new (by_key eps) p entered z)
          ∙ ap (λ (k : Candidate). key_of eps k.point) (get_or-append p.all (entered ∷ []) no_candidate c h)
      go (Some i) z = ap (λ (l : List Candidate). key_of eps (get_or l c no_candidate).point) (all_found (by_key eps) p entered i z) ∙ at i z (ℕ_discrete c i)

  count_least : length p.all ≤ length then.all
  count_least = go (place_for (by_key eps) p entered) refl
    where
      go : (k : Option ℕ) → place_for (by_key eps) p entered ≡ k → length p.all ≤ length then.all
      go None z = omega (arith, count_new (by_key eps) p entered z)
      go (Some i) z = omega (arith, count_found (by_key eps) p entered i z)

  -- what the rule finds it finds again
  link_stays : (e : Candidate) (c : ℕ) → place_for (by_key eps) p e ≡ Some c → place_for (by_key eps) then e ≡ Some c
  link_stays e c z =
      let l = spots_long eps p in
      let l' = spots_long eps then in
      place_is eps then e c
      (first_stays (λ q. same_key (key_of eps q) (key_of eps e.point)) e.point (spots eps p) (spots eps then) (omega (arith, count_least))
      (λ k h.
      let low : k < length p.all = omega arith in
      ap (λ (x : Key). same_key x (key_of eps e.point))
      (ap (key_of eps) (spot_at eps then e.point k (omega (arith, count_least))) ∙ keys_kept k low ∙ ap (key_of eps) (sym (spot_at eps p e.point k low))))
      c (link_is eps p e ∙ ap link_of z))

  -- and the vertex that was inserted has a candidate
  link_own : place_for (by_key eps) then entered ≡ Some (number_for (by_key eps) p entered)
  link_own = go (place_for (by_key eps) p entered) refl
    where
      passes : ℕ → Type 0
      passes k = T (same_key (key_of eps (get_or (spots eps then) k (vertex points v))) (key_of eps (vertex points v)))

      last : place_for (by_key eps) p entered ≡ None → get_or (spots eps then) (length p.all) (vertex points v) ≡ vertex points v
      last z =
          spot_at eps then (vertex points v) (length p.all) (omega (arith, count_new (by_key eps) p entered z))
          ∙ ap (λ (l : List Candidate). (get_or l (length p.all) no_candidate).point) (all_new (by_key eps) p entered z)
          ∙ ap (λ (k : Candidate). k.point) (get_or_at p.all entered [] no_candidate (length p.all) refl)

      before : place_for (by_key eps) p entered ≡ None → (k : ℕ) → k < length p.all → passes k → ⊥
      before z k h t =
          true≢false
          (sym (is_true (same_key (key_of eps (get_or (spots eps then) k (vertex points v))) (key_of eps (vertex points v))) t)
          ∙ ap (λ (x : Key). same_key x (key_of eps (vertex points v))) (ap (key_of eps) (spot_at eps then (vertex points v) k (omega (arith, count_least))) ∙ keys_kept k h)
          ∙ link_new eps p entered z k h)

      go : (k : Option ℕ) → place_for (by_key eps) p entered ≡ k → place_for (by_key eps) then entered ≡ Some (number_for (by_key eps) p entered)
      go None z =
          place_is eps then entered (length p.all)
          (sym (first_link_to (λ q. same_key (key_of eps q) (key_of eps (vertex points v))) (vertex points v) (spots eps then) (length p.all + 1)
          (subst (λ (m : ℕ). First passes 0 m (length p.all + 1)) (let l = spots_long eps then in omega (arith, count_new (by_key eps) p entered z))
          (first_new passes 0 (length p.all) (omega arith)
          (subst T (sym (ap (λ (q : Point). same_key (key_of eps q) (key_of eps (vertex points v))) (last z) ∙ key_self (key_of eps (vertex points v)))) tt)
          (λ k a b. before z k b))))
          ∙ omega arith)
          ∙ ap Some (sym (number_new (by_key eps) p entered z))
      go (Some i) z = link_stays entered i z ∙ ap Some (sym (number_found (by_key eps) p entered i z))

  module _ (word word' : ℕ → ℕ) (s : Sourced points eps p word) (h : v < length points) (own : word' v ≡ suc (number_for (by_key eps) p entered))
      (other : (u : ℕ) → (u ≡ v → ⊥) → word' u ≡ word u) where
    low : (c : ℕ) → c < length then.all → (get_or then.all c no_candidate).mesh ≤ length points
    low = go (place_for (by_key eps) p entered) refl
      where
        go : (k : Option ℕ) → place_for (by_key eps) p entered ≡ k → (c : ℕ) → c < length then.all → (get_or then.all c no_candidate).mesh ≤ length points
        go None z =
            subst (λ (l : List Candidate). (c : ℕ) → c < length l → (get_or l c no_candidate).mesh ≤ length points) (sym (all_new (by_key eps) p entered z))
            (snoc_all (λ k. k.mesh ≤ length points) p.all entered s.low (omega arith))
        go (Some i) z =
            subst (λ (l : List Candidate). (c : ℕ) → c < length l → (get_or l c no_candidate).mesh ≤ length points) (sym (all_found (by_key eps) p entered i z))
            (set_all (λ k. k.mesh ≤ length points) p.all i (anew i) s.low (let m = mesh_anew i in omega arith))

    found : (u c : ℕ) → u < length points → word' u ≡ suc c → place_for (by_key eps) then (record { point = vertex points u; mesh = u + 1; on = [] }) ≡ Some c
    found u c l e = go (ℕ_discrete u v)
      where
        go : Dec (u ≡ v) → place_for (by_key eps) then (record { point = vertex points u; mesh = u + 1; on = [] }) ≡ Some c
        go (yes q) =
            ap (λ (x : ℕ). place_for (by_key eps) then (record { point = vertex points x; mesh = x + 1; on = [] })) q
            ∙ link_own ∙ ap Some (omega (arith, own, e, ap word' q))
        go (no d) = link_stays (record { point = vertex points u; mesh = u + 1; on = [] }) c (s.found u c l (sym (other u d) ∙ e))

    abbrev from : ℕ → ℕ
    from c = cond (eqb c (length p.all)) v (s.source c)

    from_new : (c : ℕ) → c ≡ length p.all → from c ≡ v
    from_new c q = ap (λ (b : Bool). cond b v (s.source c)) (eq-eqb c (length p.all) q)

    from_old : (c : ℕ) → (c ≡ length p.all → ⊥) → from c ≡ s.source c
    from_old c d = ap (λ (b : Bool). cond b v (s.source c)) (ne_eqb c (length p.all) d)

    names_new : (k : Option ℕ) → place_for (by_key eps) p entered ≡ k → length p.all < length then.all → word' v ≡ suc (length p.all)
    names_new None z l = own ∙ ap suc (number_new (by_key eps) p entered z)
    names_new (Some i) z l = absurd (omega (arith, count_found (by_key eps) p entered i z))

    names_old : (c : ℕ) → c < length p.all → Dec (s.source c ≡ v) → word' (s.source c) ≡ suc c
    names_old c l (yes q) =
        ap word' q ∙ own ∙ ap suc (number_found (by_key eps) p entered c (s.found v c h (ap word (sym q) ∙ s.names c l)))
    names_old c l (no d) = other (s.source c) d ∙ s.names c l

    within : (c : ℕ) → c < length then.all → Dec (c ≡ length p.all) → from c < length points
    within c l (yes q) = subst (λ (x : ℕ). x < length points) (sym (from_new c q)) h
    within c l (no d) = subst (λ (x : ℕ). x < length points) (sym (from_old c d)) (s.within c (omega (arith, count_most (by_key eps) p entered)))

    names : (c : ℕ) → c < length then.all → Dec (c ≡ length p.all) → word' (from c) ≡ suc c
    names c l (yes q) = ap word' (from_new c q) ∙ names_new (place_for (by_key eps) p entered) refl (omega arith) ∙ ap suc (sym q)
    names c l (no d) = let low : c < length p.all = omega (arith, count_most (by_key eps) p entered) in ap word' (from_old c d) ∙ names_old c low (ℕ_discrete (s.source c) v)

    pub sourced_kept : Sourced points eps then word'
    sourced_kept =
        record {
          low = low;
          found = found;
          source = from;
          within = λ c l. within c l (ℕ_discrete c (length p.all));
          names = λ c l. names c l (ℕ_discrete c (length p.all));
        }

-- ---- how many there can be

module _ (points : List Point) (eps : Float) (p : Pool) (word : ℕ → ℕ) (s : Sourced points eps p word) where
  abbrev sources : List ℕ
  sources = map s.source (up_to (length p.all))

  sources_long : length sources ≡ length p.all
  sources_long = length-map (up_to (length p.all)) s.source ∙ length_up 0 (length p.all)

  source_at : (c : ℕ) → c < length p.all → get_or sources c 0 ≡ s.source c
  source_at c h = at_map_up s.source 0 0 (length p.all) c h ∙ ap s.source (omega arith)

  source_low : (c : ℕ) → c < length sources → get_or sources c 0 < length points
  source_low c h = let l : c < length p.all = omega (arith, sources_long) in omega (arith, source_at c l, s.within c l)

  word_at : (c : ℕ) → c < length p.all → word (get_or sources c 0) ≡ suc c
  word_at c h = ap word (source_at c h) ∙ s.names c h

  differ : (c d : ℕ) → c < d → d < length sources → get_or sources c 0 ≡ get_or sources d 0 → ⊥
  differ c d cd h e =
      let l : d < length p.all = omega (arith, sources_long) in
      let q : suc c ≡ suc d = sym (word_at c (omega arith)) ∙ ap word e ∙ word_at d l in
      omega arith

  pub sourced_few : length p.all ≤ length points
  sourced_few = omega (arith, sources_long, pigeonhole (length points) sources differ source_low)

  module _ (v : ℕ) (on : List ℕ) (h : v < length points) (z : place_for (by_key eps) p (record { point = vertex points v; mesh = v + 1; on = on }) ≡ None) where
    unnamed : (d : ℕ) → d < length sources → v ≡ get_or sources d 0 → ⊥
    unnamed d l e =
        let k : d < length p.all = omega (arith, sources_long) in
        none-some d (sym (sym (s.found v d h (ap word e ∙ word_at d k)) ∙ z))

    all_differ : (c d : ℕ) → c < d → d < length (v ∷ sources) → get_or (v ∷ sources) c 0 ≡ get_or (v ∷ sources) d 0 → ⊥
    all_differ c zero cd l e = omega arith
    all_differ zero (suc d) cd l e = unnamed d (omega arith) e
    all_differ (suc c) (suc d) cd l e = differ c d (omega arith) (omega arith) e

    all_low : (c : ℕ) → c < length (v ∷ sources) → get_or (v ∷ sources) c 0 < length points
    all_low zero l = h
    all_low (suc c) l = source_low c (omega arith)

    pub sourced_room : length p.all < length points
    sourced_room = omega (arith, sources_long, pigeonhole (length points) (v ∷ sources) all_differ all_low)
