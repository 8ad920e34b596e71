-- One corner more is numbered: what it does to the room, and to the numbers given out. Assumes nothing.
use Prim.Native.Nat.{ℕ, ◌+◌, ◌*◌, ◌-◌, ◌≤◌, ◌<◌}
use native.Mathlib.Decide.{ℕ_discrete}
use native.Mathlib.Omega.{arith}
use mathlib.Core.Path.{◌≡◌, refl, sym, ap, subst, ◌∙◌}
use mathlib.Core.Bool.{Bool, cond}
use mathlib.Core.List.Memᴰ
use mathlib.Core.List.{List, [], ◌∷◌, ◌++◌, map, map-append, foldl-append, Memᴰ}
use mathlib.Core.Logic.{⊎_elim}
use lib.ListN.{length, get_or, set, length-set, length-map}
use lib.Seq.{get_or-set_same, get_or-set_other, ext_get_or}
use borrow.Author.Tests.{eq-eqb, ne_eqb}
use Rattle.lists.specs.Regions.{view}
use Rattle.lists.proofs.Regions.{view_length, view_at, view_same, view_more}
use Rattle.lists.proofs.Sequences.{map_same}
use Rattle.geometry.specs.declared.point.Point.{Point}
use Rattle.geometry.specs.Meshes.{vertex}
use Rattle.geometry.specs.FirstUse.{Named, new_number, enter}
use Rattle.geometry.proofs.FirstUse.{enter_new, enter_old, enter_stays, entered}
use Rattle.mesh_compact.specs.declared.numbered.Numbered.{Numbered}
use Rattle.mesh_compact.specs.Room.{numbering, after_vertex, count_after, Vertexed, Pointed, Naming, Cornered}

pub numbering_more : (points : List Point) (cs : List ℕ) (v : ℕ) → numbering points (cs ++ (v ∷ [])) ≡ enter (vertex points) (numbering points cs) v
unfolding numbering
numbering_more points cs v = foldl-append (enter (vertex points)) _ cs (v ∷ [])

-- a store inside a part of a list
view_set : (m : List ℕ) (o n v x : ℕ) → o + n ≤ length m → v < n → view (set m (o + v) x) o n ≡ set (view m o n) v x
view_set m o n v x h lt =
    ext_get_or 0 (view (set m (o + v) x) o n) (set (view m o n) v x) (long ∙ sym (length-set (view m o n) v x ∙ view_length m o n h))
    (λ i li. let li' : i < n = omega (arith, long) in go i li' (ℕ_discrete i v))
  where
    long : length (view (set m (o + v) x) o n) ≡ n
    long = view_length (set m (o + v) x) o n (let e = length-set m (o + v) x in omega arith)

    go : (i : ℕ) → i < n → Dec (i ≡ v) → get_or (view (set m (o + v) x) o n) i 0 ≡ get_or (set (view m o n) v x) i 0
    go i li (yes e) =
        subst (λ (j : ℕ). get_or (view (set m (o + v) x) o n) j 0 ≡ get_or (set (view m o n) v x) j 0) (sym e)
        (view_at (set m (o + v) x) o n v lt ∙ get_or-set_same m (o + v) x 0 (omega arith) ∙ sym (get_or-set_same (view m o n) v x 0 (let l = view_length m o n h in omega arith)))
    go i li (no e) =
        view_at (set m (o + v) x) o n i li ∙ get_or-set_other m (o + v) (o + i) x 0 (λ q. e (omega arith)) ∙ sym (view_at m o n i li) ∙ sym (get_or-set_other (view m o n) v i x 0 e)

-- ---- the vertex v

-- what numbering v alone leaves
record Stepped (point : ℕ → Point) (points : List Point) (top at n k a r : ℕ) (cs : List ℕ) (v : ℕ) (m m₁ : List ℕ) : Type 0 where
  given : view m₁ at n ≡ (enter (vertex points) (numbering points cs) v).given
  used : map point (view m₁ (at + n) r) ≡ (enter (vertex points) (numbering points cs) v).points
  low : (j : ℕ) → j < r → get_or m₁ (at + n + j) 0 < top
  ranked : (u : ℕ) → u < n → get_or m₁ (at + u) 0 ≤ r
  has : 0 < get_or m₁ (at + v) 0
  grows : a ≤ r
  few : r ≤ a + 1
  rest : (x : ℕ) → x < at → get_or m₁ x 0 ≡ get_or m x 0
  beyond : (x : ℕ) → at + n + 3 * k ≤ x → get_or m₁ x 0 ≡ get_or m x 0
  long : length m₁ ≡ length m

module _ (m : List ℕ) (kept at n count v : ℕ) where
  pub after_old : (get_or m (at + v) 0 ≡ 0 → ⊥) → (after_vertex m kept at n count v ≡ m) × (count_after m at count v ≡ count)
  after_old h = (
    ap (λ (b : Bool). cond b (set (set m (at + n + count) (get_or m (kept + v) 0)) (at + v) (count + 1)) m) (ne_eqb (get_or m (at + v) 0) 0 h),
    ap (λ (b : Bool). cond b (count + 1) count) (ne_eqb (get_or m (at + v) 0) 0 h),
  )

  pub after_new : get_or m (at + v) 0 ≡ 0 → (after_vertex m kept at n count v ≡ set (set m (at + n + count) (get_or m (kept + v) 0)) (at + v) (count + 1)) ×
      (count_after m at count v ≡ count + 1)
  after_new h = (
    ap (λ (b : Bool). cond b (set (set m (at + n + count) (get_or m (kept + v) 0)) (at + v) (count + 1)) m) (eq-eqb (get_or m (at + v) 0) 0 h),
    ap (λ (b : Bool). cond b (count + 1) count) (eq-eqb (get_or m (at + v) 0) 0 h),
  )

module _ (point : ℕ → Point) (points : List Point) (top kept at n k a c v : ℕ) (cs : List ℕ) (m : List ℕ)
    (P : Pointed point points top kept v m) (N : Naming point points top at n k a c cs m)
    (vn : v < n) (room : at + n + 6 * k ≤ length m) (ac : a ≤ c) (ck : c < 3 * k) where
  abbrev M : Named
  M = numbering points cs

  given_at_lem : get_or M.given v 0 ≡ get_or m (at + v) 0
  given_at_lem = ap (λ (l : List ℕ). get_or l v 0) (sym N.given) ∙ view_at m at n v vn

  given_long : length M.given ≡ n
  given_long = ap length (sym N.given) ∙ view_length m at n (omega arith)

  used_long : length M.points ≡ a
  used_long = ap length (sym N.used) ∙ length-map (view m (at + n) a) point ∙ view_length m (at + n) a (omega arith)

  stepped_old : (get_or m (at + v) 0 ≡ 0 → ⊥) → Stepped point points top at n k a a cs v m m
  stepped_old h =
      let e = enter_old (vertex points) M v (omega (arith, given_at_lem)) in
      record {
        given = N.given ∙ ap (λ (x : Named). x.given) (sym e);
        used = N.used ∙ ap (λ (x : Named). x.points) (sym e);
        low = N.low;
        ranked = N.ranked;
        has = omega arith;
        grows = omega arith;
        few = omega arith;
        rest = λ x q. refl;
        beyond = λ x q. refl;
        long = refl;
      }

  stepped_new : get_or m (at + v) 0 ≡ 0 → Stepped point points top at n k a (a + 1) cs v m (set (set m (at + n + a) (get_or m (kept + v) 0)) (at + v) (a + 1))
  stepped_new h =
      record {
        given = view_set s₁ at n v (a + 1) (omega (arith, l₁)) vn
            ∙ ap (λ (l : List ℕ). set l v (a + 1)) (view_same m s₁ at n (omega arith) l₁ (λ i lt. off₁ (at + i) (λ q. omega arith)) ∙ N.given)
            ∙ ap (λ (x : ℕ). set M.given v (x + 1)) (sym used_long)
            ∙ ap (λ (x : Named). x.given) (sym e);
        used = ap (map point) (view_more m v₁ (at + n) a (get_or m (kept + v) 0) (omega arith) len
            (λ j lt. off (at + n + j) (λ q. omega arith) (λ q. omega arith))
            (get_or-set_other s₁ (at + v) (at + n + a) (a + 1) 0 (λ q. omega arith) ∙ get_or-set_same m (at + n + a) (get_or m (kept + v) 0) 0 (omega arith)))
            ∙ map-append point (view m (at + n) a) (get_or m (kept + v) 0 ∷ [])
            ∙ ap (λ (l : List Point). l ++ (point (get_or m (kept + v) 0) ∷ [])) N.used
            ∙ ap (λ (p : Point). M.points ++ (p ∷ [])) (sym P.is)
            ∙ ap (λ (x : Named). x.points) (sym e);
        low = λ j lt. low j lt (ℕ_discrete j a);
        ranked = λ u lt. ranked u lt (ℕ_discrete u v);
        has = rw at_v (omega arith);
        grows = omega arith;
        few = omega arith;
        rest = λ x q. off x (λ d. omega arith) (λ d. omega arith);
        beyond = λ x q. off x (λ d. omega arith) (λ d. omega arith);
        long = len;
      }
    where
      s₁ : List ℕ
      s₁ = set m (at + n + a) (get_or m (kept + v) 0)

      v₁ : List ℕ
      v₁ = set (set m (at + n + a) (get_or m (kept + v) 0)) (at + v) (a + 1)

      l₁ : length s₁ ≡ length m
      l₁ = length-set m (at + n + a) (get_or m (kept + v) 0)

      len : length v₁ ≡ length m
      len = length-set s₁ (at + v) (a + 1) ∙ l₁

      e : enter (vertex points) M v ≡ record { given = set M.given v (length M.points + 1); points = M.points ++ (vertex points v ∷ []) }
      e = enter_new (vertex points) M v (given_at_lem ∙ h)

      off₁ : (x : ℕ) → (x ≡ at + n + a → ⊥) → get_or s₁ x 0 ≡ get_or m x 0
      off₁ x q = get_or-set_other m (at + n + a) x (get_or m (kept + v) 0) 0 q

      off : (x : ℕ) → (x ≡ at + n + a → ⊥) → (x ≡ at + v → ⊥) → get_or v₁ x 0 ≡ get_or m x 0
      off x p q = get_or-set_other s₁ (at + v) x (a + 1) 0 q ∙ off₁ x p

      at_v : get_or v₁ (at + v) 0 ≡ a + 1
      at_v = get_or-set_same s₁ (at + v) (a + 1) 0 (omega (arith, l₁))

      low : (j : ℕ) → j < a + 1 → Dec (j ≡ a) → get_or v₁ (at + n + j) 0 < top
      low j lt (yes q) =
          subst (λ (i : ℕ). get_or v₁ (at + n + i) 0 < top) (sym q)
          (rw (get_or-set_other s₁ (at + v) (at + n + a) (a + 1) 0 (λ d. omega arith), get_or-set_same m (at + n + a) (get_or m (kept + v) 0) 0 (omega arith)) P.low)
      low j lt (no q) = rw (off (at + n + j) (λ d. q (omega arith)) (λ d. omega arith)) (N.low j (omega arith))

      ranked : (u : ℕ) → u < n → Dec (u ≡ v) → get_or v₁ (at + u) 0 ≤ a + 1
      ranked u lt (yes q) = subst (λ (i : ℕ). get_or v₁ (at + i) 0 ≤ a + 1) (sym q) (rw at_v (omega arith))
      ranked u lt (no q) = rw (off (at + u) (λ d. omega arith) (λ d. q (omega arith))) (let t = N.ranked u lt in omega arith)

  stepped : Stepped point points top at n k a (count_after m at a v) cs v m (after_vertex m kept at n a v)
  stepped = go (ℕ_discrete (get_or m (at + v) 0) 0)
    where
      go : Dec (get_or m (at + v) 0 ≡ 0) → Stepped point points top at n k a (count_after m at a v) cs v m (after_vertex m kept at n a v)
      go (yes h) =
          let e = after_new m kept at n a v h in
          subst (λ (r : ℕ). Stepped point points top at n k a r cs v m (after_vertex m kept at n a v)) (sym e.1)
          (subst (λ (l : List ℕ). Stepped point points top at n k a (a + 1) cs v m l) (sym e.0) (stepped_new h))
      go (no h) =
          let e = after_old m kept at n a v h in
          subst (λ (r : ℕ). Stepped point points top at n k a r cs v m (after_vertex m kept at n a v)) (sym e.1)
          (subst (λ (l : List ℕ). Stepped point points top at n k a a cs v m l) (sym e.0) (stepped_old h))

  -- ---- and the corner's number

  module _ (r : ℕ) (m₁ : List ℕ) (S : Stepped point points top at n k a r cs v m m₁) where
    abbrev N' : Named
    N' = enter (vertex points) M v

    abbrev m₂ : List ℕ
    m₂ = set m₁ (at + n + 3 * k + c) (get_or m₁ (at + v) 0 - 1)

    put : (x : ℕ) → (x ≡ at + n + 3 * k + c → ⊥) → get_or m₂ x 0 ≡ get_or m₁ x 0
    put x q = get_or-set_other m₁ (at + n + 3 * k + c) x (get_or m₁ (at + v) 0 - 1) 0 q

    len₂ : length m₂ ≡ length m
    len₂ = length-set m₁ (at + n + 3 * k + c) (get_or m₁ (at + v) 0 - 1) ∙ S.long

    named' : (u : ℕ) → Memᴰ u (cs ++ (v ∷ [])) → 0 < get_or N'.given u 0
    named' u q =
        ⊎_elim
        (λ p. let h = N.named u p in rw (enter_stays (vertex points) M v u h) h)
        (λ p. let e = Memᴰ.eq_of_singleton p in subst (λ (x : ℕ). 0 < get_or N'.given x 0) (sym e) (entered (vertex points) M v (let l = given_long in omega arith)))
        (Memᴰ.append_cases cs q)

    number_is : get_or m₁ (at + v) 0 - 1 ≡ new_number N' v
    number_is = ap (λ (x : ℕ). x - 1) (sym (view_at m₁ at n v vn) ∙ ap (λ (l : List ℕ). get_or l v 0) S.given)

    rk : r ≤ 3 * k
    rk = let f = S.few in omega arith

    E : numbering points (cs ++ (v ∷ [])) ≡ enter (vertex points) M v
    E = numbering_more points cs v

    numbered_corner : Naming point points top at n k r (c + 1) (cs ++ (v ∷ [])) m₂
    numbered_corner =
        record {
          given = view_same m₁ m₂ at n (omega (arith, S.long)) (len₂ ∙ sym S.long) (λ i lt. put (at + i) (λ q. omega arith)) ∙ S.given ∙ ap (λ (X : Named). X.given) (sym E);
          used =
              ap (map point) (view_same m₁ m₂ (at + n) r (let g = rk in omega (arith, S.long)) (len₂ ∙ sym S.long) (λ i lt. put (at + n + i) (λ q. let g = rk in omega arith)))
              ∙ S.used ∙ ap (λ (X : Named). X.points) (sym E);
          numbers = view_more m m₂ (at + n + 3 * k) c (get_or m₁ (at + v) 0 - 1) (omega arith) len₂
              (λ j lt. put (at + n + 3 * k + j) (λ q. omega arith) ∙ S.beyond (at + n + 3 * k + j) (omega arith))
              (get_or-set_same m₁ (at + n + 3 * k + c) (get_or m₁ (at + v) 0 - 1) 0 (omega (arith, S.long)))
              ∙ ap (λ (l : List ℕ). l ++ ((get_or m₁ (at + v) 0 - 1) ∷ []))
              (N.numbers ∙ map_same (new_number M) (new_number N') cs (λ u q. ap (λ (x : ℕ). x - 1) (sym (enter_stays (vertex points) M v u (N.named u q)))))
              ∙ ap (λ (x : ℕ). map (new_number N') cs ++ (x ∷ [])) number_is
              ∙ sym (map-append (new_number N') cs (v ∷ []))
              ∙ ap (λ (X : Named). map (new_number X) (cs ++ (v ∷ []))) (sym E);
          named = λ u q. subst (λ (X : Named). 0 < get_or X.given u 0) (sym E) (named' u q);
          low = λ j lt. rw (put (at + n + j) (λ q. let g = rk in omega arith)) (S.low j lt);
          ranked = λ u lt. rw (put (at + u) (λ q. omega arith)) (S.ranked u lt);
          small = λ j lt. small j lt (ℕ_discrete j c);
        }
      where
        small : (j : ℕ) → j < c + 1 → Dec (j ≡ c) → get_or m₂ (at + n + 3 * k + j) 0 < r
        small j lt (yes q) =
            subst (λ (i : ℕ). get_or m₂ (at + n + 3 * k + i) 0 < r) (sym q)
            (rw (get_or-set_same m₁ (at + n + 3 * k + c) (get_or m₁ (at + v) 0 - 1) 0 (omega (arith, S.long))) (let h = S.has in let g = S.ranked v vn in omega arith))
        small j lt (no q) =
            rw (put (at + n + 3 * k + j) (λ d. q (omega arith)), S.beyond (at + n + 3 * k + j) (omega arith)) (let t = N.small j (omega arith) in let g = S.grows in omega arith)

-- ---- the contract of a corner

module _ (kept at n k v : ℕ) (w : Numbered) (m m₁ : List ℕ) (r : ℕ) (U : Vertexed kept at n w.vertices v r m m₁)
    (vn : v < n) (below : kept + n ≤ at) (room : at + n + 6 * k ≤ length m) (ck : w.corners < 3 * k) where
  ac : w.vertices ≤ w.corners
  ac = w.few

  -- the number just read is there
  pub has_number : 0 < get_or m₁ (at + v) 0
  has_number = rw U.room (go (ℕ_discrete (get_or m (at + v) 0) 0))
    where
      go : Dec (get_or m (at + v) 0 ≡ 0) → 0 < get_or (after_vertex m kept at n w.vertices v) (at + v) 0
      go (yes h) =
          rw (
            (after_new m kept at n w.vertices v h).0,
            get_or-set_same (set m (at + n + w.vertices) (get_or m (kept + v) 0)) (at + v) (w.vertices + 1) 0
                (let l = length-set m (at + n + w.vertices) (get_or m (kept + v) 0) in omega arith),
          )
          (omega arith)
      go (no h) = rw (after_old m kept at n w.vertices v h).0 (omega arith)

  long₁ : length m₁ ≡ length m
  long₁ = ap length U.room ∙ go (ℕ_discrete (get_or m (at + v) 0) 0)
    where
      go : Dec (get_or m (at + v) 0 ≡ 0) → length (after_vertex m kept at n w.vertices v) ≡ length m
      go (yes h) =
          ap length (after_new m kept at n w.vertices v h).0 ∙ length-set (set m (at + n + w.vertices) (get_or m (kept + v) 0)) (at + v) (w.vertices + 1)
          ∙ length-set m (at + n + w.vertices) (get_or m (kept + v) 0)
      go (no h) = ap length (after_old m kept at n w.vertices v h).0

  rest₁ : (x : ℕ) → x < at → get_or m₁ x 0 ≡ get_or m x 0
  rest₁ x q = ap (λ (l : List ℕ). get_or l x 0) U.room ∙ go (ℕ_discrete (get_or m (at + v) 0) 0)
    where
      go : Dec (get_or m (at + v) 0 ≡ 0) → get_or (after_vertex m kept at n w.vertices v) x 0 ≡ get_or m x 0
      go (yes h) =
          ap (λ (l : List ℕ). get_or l x 0) (after_new m kept at n w.vertices v h).0
          ∙ get_or-set_other (set m (at + n + w.vertices) (get_or m (kept + v) 0)) (at + v) x (w.vertices + 1) 0 (λ d. omega arith)
          ∙ get_or-set_other m (at + n + w.vertices) x (get_or m (kept + v) 0) 0 (λ d. omega arith)
      go (no h) = ap (λ (l : List ℕ). get_or l x 0) (after_old m kept at n w.vertices v h).0

  few₁ : r ≤ w.vertices + 1
  few₁ = rw U.counted (go (ℕ_discrete (get_or m (at + v) 0) 0))
    where
      go : Dec (get_or m (at + v) 0 ≡ 0) → count_after m at w.vertices v ≤ w.vertices + 1
      go (yes h) = rw (after_new m kept at n w.vertices v h).1 (omega arith)
      go (no h) = rw (after_old m kept at n w.vertices v h).1 (omega arith)

  pub cornered : (few : r ≤ w.corners + 1)
      → Cornered kept at n k v w (record { vertices = r; corners = w.corners + 1; few = few }) m (set m₁ (at + n + 3 * k + w.corners) (get_or m₁ (at + v) 0 - 1))
  cornered few =
      record {
        corners = refl;
        rest = λ x q. get_or-set_other m₁ (at + n + 3 * k + w.corners) x (get_or m₁ (at + v) 0 - 1) 0 (λ d. omega arith) ∙ rest₁ x q;
        naming = λ point points top cs P N.
            numbered_corner point points top kept at n k w.vertices w.corners v cs m P N vn room ac ck r m₁
            (subst (λ (x : ℕ). Stepped point points top at n k w.vertices x cs v m m₁) (sym U.counted)
            (subst (λ (l : List ℕ). Stepped point points top at n k w.vertices (count_after m at w.vertices v) cs v m l) (sym U.room)
            (stepped point points top kept at n k w.vertices w.corners v cs m P N vn room ac ck)));
      }
