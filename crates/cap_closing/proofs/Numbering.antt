-- A candidate entered in the room: what it does to the numbers given out. Assumes nothing.
--   most_vertices      there are at most as many new vertices as candidates     room_for   and room for one that has no number
--   points_at          the new vertices, place by place                         count_points   how many vertices there are
--   sound_at           a number given is a vertex's                             number_at, given_long   the number of a candidate
--   entered_old, entered_new   a candidate that has a number, and one that gets it
--   old_at, new_at     the same by the places that the code computes            top_room   which are small
use Prim.Native.Nat.{ℕ, suc, ◌+◌, ◌*◌, ◌-◌, ◌≤◌, ◌<◌}
use mathlib.Core.Path.{◌≡◌, refl, sym, ap, subst, ◌∙◌}
use mathlib.Core.Bool.{Bool, cond}
use mathlib.Core.List.{List, [], ◌∷◌, ◌++◌, map, append_assoc, map-map}
use native.Mathlib.Decide.{ℕ_discrete}
use native.Mathlib.Omega.{arith}
use borrow.Author.Tests.{eq-eqb, ne_eqb}
use lib.Dec.{eqb}
use lib.ListN.{length, get_or, set, length-set, length-map, length-append, get_or-eq_default}
use lib.Ieee.{binary64, of_bits}
use lib.Seq.{get_or-set_same, get_or-set_other, ext_get_or}
use Rattle.lists.specs.Lists.{up_to}
use Rattle.lists.specs.Regions.{view}
use Rattle.lists.proofs.Places.{length_up}
use Rattle.lists.proofs.Regions.{view_length, view_at, view_map}
use Rattle.lists.proofs.Sequences.{map_below}
use Rattle.geometry.specs.declared.point.Point.{Point}
use Rattle.geometry.specs.Points.{pt}
use Rattle.geometry.specs.FirstUse.{Named, enter}
use Rattle.geometry.proofs.FirstUse.{enter_new, enter_old}
use Rattle.candidate_pool.specs.Offsets.{entry_at}
use Rattle.candidate_pool.specs.Standing.{count_at}
use Rattle.cap_closing.specs.Steps.{point_in, named_at, NamesEntering, NamesEntered}
use Rattle.cap_closing.proofs.Growth.{named_of, Sound}
use Rattle.cap_closing.proofs.Upwards.{map_more, few_places}

module _ (b n nc nv : ℕ) (w : List ℕ) (E : NamesEntering b n nc nv w) where
  abbrev top : ℕ
  top = get_or w (b + 2 * n + 8 * nc) 0

  abbrev fresh_of : ℕ → ℕ
  fresh_of i = get_or w (b + n + i) 0

  once : (i j : ℕ) → nv + i < top → nv + j < top → fresh_of i ≡ fresh_of j → i ≡ j
  once i j h k e =
      let x = E.numbered i h in
      let y = E.numbered j k in
      let z = ap (λ (c : ℕ). get_or w (b + c) 0) e in
      omega arith

  pub most_vertices : top ≤ nv + count_at w
  most_vertices =
      let o = E.own in
      let r = few_places (count_at w) (top - nv) fresh_of (λ i h. E.fresh i (omega arith)) (λ i j h k e. let q = once i j (omega arith) (omega arith) e in omega arith) in
      omega arith

  module _ (id : ℕ) (low : id < count_at w) (none : get_or w (b + id) 0 ≡ 0) where
    abbrev with_it : ℕ → ℕ
    with_it i = cond (eqb i (top - nv)) id (fresh_of i)

    with_old : (i : ℕ) → i < top - nv → with_it i ≡ fresh_of i
    with_old i h = ap (λ (x : Bool). cond x id (fresh_of i)) (ne_eqb i (top - nv) (λ e. omega arith))

    with_new : (i : ℕ) → i ≡ top - nv → with_it i ≡ id
    with_new i h = ap (λ (x : Bool). cond x id (fresh_of i)) (eq-eqb i (top - nv) h)

    pub room_for : top < nv + count_at w
    room_for =
        let o = E.own in
        let r = few_places (count_at w) (suc (top - nv)) with_it (λ i h. below i h (ℕ_discrete i (top - nv))) (λ i j h k. apart i j h k (ℕ_discrete j (top - nv))) in
        omega arith
      where
        below : (i : ℕ) → i < suc (top - nv) → Dec (i ≡ top - nv) → with_it i < count_at w
        below i h (yes e) = let x = with_new i e in omega arith
        below i h (no d) = let x = with_old i (omega arith) in let y = E.fresh i (omega arith) in omega arith

        apart : (i j : ℕ) → i < j → j < suc (top - nv) → Dec (j ≡ top - nv) → with_it i ≡ with_it j → ⊥
        apart i j h k (yes e) q =
            let s : fresh_of i ≡ id = sym (with_old i (omega arith)) ∙ q ∙ with_new j e in
            let x = E.numbered i (omega arith) in
            let z = ap (λ (c : ℕ). get_or w (b + c) 0) s in
            omega arith
        apart i j h k (no d) q =
            let x = once i j (omega arith) (omega arith) (sym (with_old i (omega arith)) ∙ q ∙ with_old j (omega arith)) in
            omega arith

  pub points_at : map (point_in w) (view w (b + n) (top - nv)) ≡ map (λ i. point_in w (fresh_of i)) (up_to (top - nv))
  points_at =
      let m = most_vertices in
      let s = E.size in
      let c = E.count in
      ap (map (point_in w)) (view_map w (b + n) (top - nv) (omega arith)) ∙ map-map (point_in w) fresh_of (up_to (top - nv))

  module _ (points : List Point) (own : length points ≡ nv) where
    abbrev named : Named
    named = named_at b n nc nv points w

    pub count_points : length named.points ≡ top
    count_points =
        let o = E.own in
        let x = length-append points (map (point_in w) (view w (b + n) (top - nv))) in
        let y = ap length points_at ∙ length-map (up_to (top - nv)) (λ i. point_in w (fresh_of i)) ∙ length_up 0 (top - nv) in
        omega arith

    pub number_at : (c : ℕ) → c < count_at w → get_or named.given c 0 ≡ get_or w (b + c) 0
    number_at c h = view_at w b (count_at w) c h

    pub given_long : length named.given ≡ count_at w
    given_long = view_length w b (count_at w) (let s = E.size in let c = E.count in omega arith)

    pub sound_at : Sound named
    sound_at = record { low = λ v. go v (ℕ_discrete (suc v - count_at w) 0) }
      where
        go : (v : ℕ) → Dec (suc v - count_at w ≡ 0) → get_or named.given v 0 ≤ length named.points
        go v (yes e) = let x = number_at v (omega arith) in let y = E.low v (omega arith) in let z = count_points in omega arith
        go v (no f) = let l = given_long in let x = get_or-eq_default named.given 0 {n = v} (let g : (suc v - count_at w ≡ 0 → ⊥) = f in omega arith) in omega arith

-- ---- one candidate

module _ (b n nc nv : ℕ) (w : List ℕ) (E : NamesEntering b n nc nv w) (id : ℕ) (low : id < count_at w) where
  pub entered_old : (get_or w (b + id) 0 ≡ 0 → ⊥) → NamesEntered b n nc nv (id ∷ []) w w
  entered_old h =
      record {
        entering = E;
        long = refl;
        below = λ x q. refl;
        between = λ x p q. refl;
        stays = λ c p q. refl;
        grows = omega arith;
        named = λ points own. sym (enter_old (point_in w) (named_at b n nc nv points w) id (let e = number_at b n nc nv w E points own id low in omega arith));
      }

  module _ (none : get_or w (b + id) 0 ≡ 0) where
    abbrev v : ℕ
    v = get_or w (b + 2 * n + 8 * nc) 0

    abbrev w₁ : List ℕ
    w₁ = set w (b + id) (v + 1)

    abbrev w₂ : List ℕ
    w₂ = set w₁ (b + n + (v - nv)) id

    abbrev w₃ : List ℕ
    w₃ = set w₂ (b + 2 * n + 8 * nc) (v + 1)

    k<n : v - nv < n
    k<n = let r = room_for b n nc nv w E id low none in let c = E.count in let o = E.own in omega arith

    long₂ : length w₂ ≡ length w
    long₂ = length-set w₁ (b + n + (v - nv)) id ∙ length-set w (b + id) (v + 1)

    long₃ : length w₃ ≡ length w
    long₃ = length-set w₂ (b + 2 * n + 8 * nc) (v + 1) ∙ long₂

    off : (x : ℕ) → (x ≡ b + id → ⊥) → (x ≡ b + n + (v - nv) → ⊥) → (x ≡ b + 2 * n + 8 * nc → ⊥) → get_or w₃ x 0 ≡ get_or w x 0
    off x p q r =
        get_or-set_other w₂ (b + 2 * n + 8 * nc) x (v + 1) 0 r
        ∙ get_or-set_other w₁ (b + n + (v - nv)) x id 0 q
        ∙ get_or-set_other w (b + id) x (v + 1) 0 p

    -- of a candidate, and of the first words
    kept : (x : ℕ) → x < b → get_or w₃ x 0 ≡ get_or w x 0
    kept x h = off x (λ e. omega arith) (λ e. omega arith) (λ e. omega arith)

    at_id : get_or w₃ (b + id) 0 ≡ v + 1
    at_id =
        let c = E.count in
        let s = E.size in
        let k = k<n in
        get_or-set_other w₂ (b + 2 * n + 8 * nc) (b + id) (v + 1) 0 (λ e. omega arith)
        ∙ get_or-set_other w₁ (b + n + (v - nv)) (b + id) id 0 (λ e. omega arith)
        ∙ get_or-set_same w (b + id) (v + 1) 0 (omega arith)

    at_fresh : get_or w₃ (b + n + (v - nv)) 0 ≡ id
    at_fresh =
        let s = E.size in
        let k = k<n in
        let l = length-set w (b + id) (v + 1) in
        get_or-set_other w₂ (b + 2 * n + 8 * nc) (b + n + (v - nv)) (v + 1) 0 (λ e. omega arith)
        ∙ get_or-set_same w₁ (b + n + (v - nv)) id 0 (omega arith)

    at_top : get_or w₃ (b + 2 * n + 8 * nc) 0 ≡ v + 1
    at_top = get_or-set_same w₂ (b + 2 * n + 8 * nc) (v + 1) 0 (let s = E.size in let l = long₂ in omega arith)

    count_same : count_at w₃ ≡ count_at w
    count_same = kept 6 (let p = E.pool in omega arith)

    point_same : (c : ℕ) → c < count_at w → point_in w₃ c ≡ point_in w c
    point_same c h =
        let p = E.pool in
        let l = E.count in
        let x = kept (entry_at c) (omega arith) in
        let y = kept (entry_at c + 1) (omega arith) in
        let z = kept (entry_at c + 2) (omega arith) in
        λ t. pt (of_bits binary64 (x t)) (of_bits binary64 (y t)) (of_bits binary64 (z t))

    -- a new vertex that there was
    fresh_same : (i : ℕ) → nv + i < v → get_or w₃ (b + n + i) 0 ≡ get_or w (b + n + i) 0
    fresh_same i h = let c = E.count in let k = k<n in off (b + n + i) (λ e. omega arith) (λ e. omega arith) (λ e. omega arith)

    -- a candidate that is another
    given_same : (c : ℕ) → c < count_at w → (c ≡ id → ⊥) → get_or w₃ (b + c) 0 ≡ get_or w (b + c) 0
    given_same c h d = let l = E.count in off (b + c) (λ e. d (omega arith)) (λ e. omega arith) (λ e. omega arith)

    entering : NamesEntering b n nc nv w₃
    entering =
        let t = at_top in
        let l = long₃ in
        let c' = count_same in
        let s = E.size in
        let o = E.own in
        let m = E.count in
        record {
          pool = E.pool;
          size = omega arith;
          count = omega arith;
          small = E.small;
          caps = E.caps;
          few = E.few;
          own = omega arith;
          fresh = λ i h. fresh i (omega arith) (ℕ_discrete i (v - nv));
          numbered = λ i h. numbered i (omega arith) (ℕ_discrete i (v - nv));
          low = λ c h. lower c (omega arith) (ℕ_discrete c id);
        }
      where
        fresh : (i : ℕ) → nv + i < v + 1 → Dec (i ≡ v - nv) → get_or w₃ (b + n + i) 0 < count_at w₃
        fresh i h (yes e) = let c = count_same in let x = ap (λ (j : ℕ). get_or w₃ (b + n + j) 0) e ∙ at_fresh in omega arith
        fresh i h (no d) = let c = count_same in let o = E.own in let x = fresh_same i (omega arith) in let y = E.fresh i (omega arith) in omega arith

        numbered : (i : ℕ) → nv + i < v + 1 → Dec (i ≡ v - nv) → get_or w₃ (b + get_or w₃ (b + n + i) 0) 0 ≡ nv + i + 1
        numbered i h (yes e) =
            let o = E.own in
            let x : get_or w₃ (b + n + i) 0 ≡ id = ap (λ (j : ℕ). get_or w₃ (b + n + j) 0) e ∙ at_fresh in
            let y = ap (λ (c : ℕ). get_or w₃ (b + c) 0) x ∙ at_id in
            omega arith
        numbered i h (no d) =
            let o = E.own in
            let i<v : nv + i < v = omega arith in
            let x = E.numbered i i<v in
            let y = ap (λ (c : ℕ). get_or w₃ (b + c) 0) (fresh_same i i<v) in
            let z = given_same (get_or w (b + n + i) 0) (E.fresh i i<v) (λ e. let q = ap (λ (c : ℕ). get_or w (b + c) 0) e in omega arith) in
            omega arith

        lower : (c : ℕ) → c < count_at w → Dec (c ≡ id) → get_or w₃ (b + c) 0 ≤ get_or w₃ (b + 2 * n + 8 * nc) 0
        lower c h (yes e) = let t = at_top in let x = ap (λ (d : ℕ). get_or w₃ (b + d) 0) e ∙ at_id in omega arith
        lower c h (no d) = let t = at_top in let x = given_same c h d in let y = E.low c h in omega arith

    given_is : view w₃ b (count_at w₃) ≡ set (view w b (count_at w)) id (v + 1)
    given_is =
        ap (view w₃ b) count_same
        ∙ ext_get_or 0 (view w₃ b (count_at w)) (set (view w b (count_at w)) id (v + 1))
        (view_length w₃ b (count_at w) (let l = long₃ in let s = E.size in let c = E.count in omega arith) ∙ sym (length-set (view w b (count_at w)) id (v + 1) ∙ long))
        (λ c h. at c (let l = view_length w₃ b (count_at w) (let l = long₃ in let s = E.size in let c = E.count in omega arith) in omega arith) (ℕ_discrete c id))
      where
        long : length (view w b (count_at w)) ≡ count_at w
        long = view_length w b (count_at w) (let s = E.size in let c = E.count in omega arith)

        at : (c : ℕ) → c < count_at w → Dec (c ≡ id) → get_or (view w₃ b (count_at w)) c 0 ≡ get_or (set (view w b (count_at w)) id (v + 1)) c 0
        at c h (yes e) =
            view_at w₃ b (count_at w) c h ∙ ap (λ (d : ℕ). get_or w₃ (b + d) 0) e ∙ at_id
            ∙ sym (ap (λ (d : ℕ). get_or (set (view w b (count_at w)) id (v + 1)) d 0) e ∙ get_or-set_same (view w b (count_at w)) id (v + 1) 0 (let l = long in omega arith))
        at c h (no d) =
            view_at w₃ b (count_at w) c h ∙ given_same c h d ∙ sym (view_at w b (count_at w) c h) ∙ sym (get_or-set_other (view w b (count_at w)) id c (v + 1) 0 d)

    fresh_is : map (point_in w₃) (view w₃ (b + n) (get_or w₃ (b + 2 * n + 8 * nc) 0 - nv)) ≡ map (point_in w) (view w (b + n) (v - nv)) ++ (point_in w id ∷ [])
    fresh_is =
        let o = E.own in
        let one : get_or w₃ (b + 2 * n + 8 * nc) 0 - nv ≡ v - nv + 1 = ap (λ (x : ℕ). x - nv) at_top ∙ omega arith in
        points_at b n nc nv w₃ entering
        ∙ ap (λ (j : ℕ). map (λ i. point_in w₃ (get_or w₃ (b + n + i) 0)) (up_to j)) one
        ∙ map_more (λ i. point_in w₃ (get_or w₃ (b + n + i) 0)) (v - nv)
        ∙ (λ t. old t ++ (new t ∷ []))
        ∙ ap (λ (l : List Point). l ++ (point_in w id ∷ [])) (sym (points_at b n nc nv w E))
      where
        old : map (λ i. point_in w₃ (get_or w₃ (b + n + i) 0)) (up_to (v - nv)) ≡ map (λ i. point_in w (get_or w (b + n + i) 0)) (up_to (v - nv))
        old =
            map_below (λ i. point_in w₃ (get_or w₃ (b + n + i) 0)) (λ i. point_in w (get_or w (b + n + i) 0)) (v - nv)
            (λ i h. let o = E.own in ap (point_in w₃) (fresh_same i (omega arith)) ∙ point_same (get_or w (b + n + i) 0) (E.fresh i (omega arith)))

        new : point_in w₃ (get_or w₃ (b + n + (v - nv)) 0) ≡ point_in w id
        new = ap (point_in w₃) at_fresh ∙ point_same id low

    named_is : (points : List Point) → length points ≡ nv → named_at b n nc nv points w₃ ≡ enter (point_in w) (named_at b n nc nv points w) id
    named_is points own =
        let g = given_is ∙ ap (λ (x : ℕ). set (view w b (count_at w)) id (x + 1)) (sym (count_points b n nc nv w E points own)) in
        let p = ap (λ (l : List Point). points ++ l) fresh_is ∙ sym (append_assoc points (map (point_in w) (view w (b + n) (v - nv))) (point_in w id ∷ [])) in
        named_of g p
        ∙ sym (enter_new (point_in w) (named_at b n nc nv points w) id (number_at b n nc nv w E points own id low ∙ none))

    pub entered_new : NamesEntered b n nc nv (id ∷ []) w w₃
    entered_new =
        record {
          entering = entering;
          long = long₃;
          below = kept;
          between = λ x p q. let c = E.count in let k = k<n in off x (λ e. omega arith) (λ e. omega arith) (λ e. omega arith);
          stays = λ c h q. given_same c h (λ e. let z = ap (λ (d : ℕ). get_or w (b + d) 0) e in omega arith);
          grows = let t = at_top in omega arith;
          named = named_is;
        }

    number_new : get_or w₃ (b + id) 0 ≡ v + 1
    number_new = at_id

    fresh_room : v - nv < n
    fresh_room = k<n

-- ---- the same, by the places that the code computes

module _ (b n nc nv : ℕ) (w : List ℕ) (E : NamesEntering b n nc nv w) (id : ℕ) (low : id < count_at w) (g : ℕ) (at-given : g ≡ b) where
  pub old_at : (get_or w (g + id) 0 ≡ 0 → ⊥) → NamesEntered b n nc nv (id ∷ []) w w × (get_or w (g + id) 0 - 1 + 1 ≡ get_or w (b + id) 0)
  old_at h =
      let q = ap (λ (x : ℕ). get_or w (x + id) 0) at-given in
      (entered_old b n nc nv w E id low (λ e. h (q ∙ e)), positive (get_or w (g + id) 0) (get_or w (b + id) 0) h q)
    where
      positive : (x y : ℕ) → (x ≡ 0 → ⊥) → x ≡ y → x - 1 + 1 ≡ y
      positive x y d e = omega arith

  module _ (f u : ℕ) (at_fresh : f ≡ b + n) (at_top : u ≡ b + 2 * n + 8 * nc) (h : get_or w (g + id) 0 ≡ 0) where
    none : get_or w (b + id) 0 ≡ 0
    none = ap (λ (x : ℕ). get_or w (x + id) 0) (sym at-given) ∙ h

    abbrev Done : ℕ → ℕ → ℕ → Type 0
    Done g f u =
        NamesEntered b n nc nv (id ∷ []) w (set (set (set w (g + id) (get_or w u 0 + 1)) (f + (get_or w u 0 - nv)) id) u (get_or w u 0 + 1))
        × (get_or w u 0 + 1 ≡ get_or (set (set (set w (g + id) (get_or w u 0 + 1)) (f + (get_or w u 0 - nv)) id) u (get_or w u 0 + 1)) (b + id) 0)

    pub new_at : Done g f u
    new_at =
        subst (λ (x : ℕ). Done x f u) (sym at-given)
        (subst (λ (x : ℕ). Done b x u) (sym at_fresh)
        (subst (λ (x : ℕ). Done b (b + n) x) (sym at_top) (entered_new b n nc nv w E id low none, sym (number_new b n nc nv w E id low none))))

    -- what the code asks of the numbers that it computes
    pub top_room : (nv ≤ get_or w u 0) × ((get_or w u 0 - nv < n) × (get_or w u 0 < 2097152))
    top_room =
        let q = ap (λ (x : ℕ). get_or w x 0) at_top in
        let o = E.own in
        let k = fresh_room b n nc nv w E id low none in
        let s = E.small in
        let r = E.few in
        (omega arith, (omega arith, omega arith))
