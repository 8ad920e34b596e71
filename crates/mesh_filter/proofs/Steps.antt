-- One facet more in the work room: it is dropped, or it passes; the first facet and the last. Assumes nothing.
use Prim.Native.Nat.{ℕ, ◌+◌, ◌*◌, ◌/◌, ◌≤◌, ◌<◌}
use native.Mathlib.Omega.{arith}
use mathlib.Core.Path.{◌≡◌, refl, sym, ap, subst, ◌∙◌}
use mathlib.Core.Bool.{true, false}
use mathlib.Core.List.{List, [], ◌∷◌, ◌++◌, map, map-append, flat_map}
use lib.ListN.{length, get_or, set, length-set}
use lib.Seq.{get_or-set_same, get_or-set_other}
use lib.Ieee.{Float}
use Rattle.lists.specs.Regions.{view, Outside, PartZeroed}
use Rattle.lists.proofs.Regions.{view_at, view_same, view_more}
use Rattle.geometry.specs.declared.point.Point.{Point}
use Rattle.geometry.specs.Triangles.{Triangle, vertices, mapped, threes, flat}
use Rattle.geometry.proofs.Threes.{flat_append}
use Rattle.chains.specs.Chains.{Linked, linked_in}
use Rattle.chains.specs.Hash.{mixed, InBucket, bucket_of}
use Rattle.chains.specs.ByWord.{word_bucket}
use Rattle.chains.proofs.Entering.{linked_none, linked_cong, linked_same, linked_more, tail_le, entered_length, entered_rest}
use Rattle.geometry.specs.Meshes.{vertex_of}
use Rattle.mesh_filter.specs.declared.corners.WeldedAt.{WeldedAt}
use Rattle.mesh_filter.specs.Filters.{facet_at, passes, passed}
use Rattle.mesh_filter.specs.Room.{corners_key, points_in_room, facets_in_room, kept_in_room, numbers_in_room, CornersNumbered, FilteredSoFar, FacetFiltered, Filtered}
use Rattle.mesh_filter.proofs.Passing.{passed_not, passed_too}

module _ (eps : Float) (points : List Point) (facets : List (Triangle ℕ)) (at n f count : ℕ) (m : List ℕ) (G : FilteredSoFar eps points facets at n f count m)
    (room : at + 14 * n ≤ length m) (h : f < n) where
  abbrev before : List ℕ
  before = passed eps points facets f

  few : count < n
  few = omega (arith, G.within)

  -- ---- the facet is dropped

  pub dropped : passes eps points facets (passed eps points facets f) (facet_at facets f) ≡ false → FacetFiltered eps points facets at n (f + 1) count m m
  dropped e =
      let s = sym (passed_not eps points facets f e) in
      record {
        going =
            record {
              done = omega arith;
              within = omega (arith, G.within);
              linked = G.linked;
              keys = G.keys ∙ ap (map (λ i. corners_key (facet_at facets i))) s;
              numbers = G.numbers ∙ s;
              corners = G.corners ∙ ap (λ (l : List ℕ). flat (map (facet_at facets) l)) s;
            };
        rest = λ x q. refl;
      }

  -- ---- the facet passes

  pub tail_low : (b : ℕ) → b < 4 * n → get_or m (at + 4 * n + b) 0 ≤ count
  tail_low b q = tail_le (word_bucket (view m (at + 9 * n) count) (4 * n)) m at (4 * n) count b G.linked q

  module _ (b key : ℕ) (t : Triangle ℕ) (T : t ≡ facet_at facets f) (K : key ≡ corners_key t) (B : InBucket (mixed key 0 0) (4 * n) b) where
    m₁ : List ℕ
    m₁ = linked_in m at (4 * n) count b

    s₁ : List ℕ
    unfolding m₁
    s₁ = set m₁ (at + 9 * n + count) key

    s₂ : List ℕ
    unfolding s₁
    s₂ = set s₁ (at + 10 * n + count) f

    s₃ : List ℕ
    unfolding s₂
    s₃ = set s₂ (at + 11 * n + 3 * count) t.a

    s₄ : List ℕ
    unfolding s₃
    s₄ = set s₃ (at + 11 * n + 3 * count + 1) t.b

    v : List ℕ
    unfolding s₄
    v = set s₄ (at + 11 * n + 3 * count + 2) t.c

    len₁ : length m₁ ≡ length m
    unfolding m₁
    len₁ = entered_length m at (4 * n) count b

    l₁ : length s₁ ≡ length m
    unfolding s₁
    l₁ = length-set m₁ (at + 9 * n + count) key ∙ len₁

    l₂ : length s₂ ≡ length m
    unfolding s₂
    l₂ = length-set s₁ (at + 10 * n + count) f ∙ l₁

    l₃ : length s₃ ≡ length m
    unfolding s₃
    l₃ = length-set s₂ (at + 11 * n + 3 * count) t.a ∙ l₂

    l₄ : length s₄ ≡ length m
    unfolding s₄
    l₄ = length-set s₃ (at + 11 * n + 3 * count + 1) t.b ∙ l₃

    len : length v ≡ length m
    unfolding v
    len = length-set s₄ (at + 11 * n + 3 * count + 2) t.c ∙ l₄

    other : (x : ℕ) → (x ≡ at + 9 * n + count → ⊥) → (x ≡ at + 10 * n + count → ⊥) → (x ≡ at + 11 * n + 3 * count → ⊥) → (x ≡ at + 11 * n + 3 * count + 1 → ⊥) →
        (x ≡ at + 11 * n + 3 * count + 2 → ⊥)
        → get_or v x 0 ≡ get_or m₁ x 0
    unfolding v s₄ s₃ s₂ s₁
    other x na nb nc nd ne =
        get_or-set_other s₄ (at + 11 * n + 3 * count + 2) x t.c 0 ne ∙ get_or-set_other s₃ (at + 11 * n + 3 * count + 1) x t.b 0 nd
        ∙ get_or-set_other s₂ (at + 11 * n + 3 * count) x t.a 0 nc ∙ get_or-set_other s₁ (at + 10 * n + count) x f 0 nb
        ∙ get_or-set_other m₁ (at + 9 * n + count) x key 0 na

    rest₁ : (x : ℕ) → Outside x at (4 * n + 4 * n + (count + 1)) → get_or m₁ x 0 ≡ get_or m x 0
    unfolding m₁
    rest₁ x q = entered_rest m at (4 * n) count b B.low (tail_low b B.low) x q

    key_new : get_or v (at + 9 * n + count) 0 ≡ key
    unfolding v s₄ s₃ s₂ s₁
    key_new =
        get_or-set_other s₄ (at + 11 * n + 3 * count + 2) (at + 9 * n + count) t.c 0 (λ q. omega (arith, few)) ∙ get_or-set_other s₃ (at + 11 * n + 3 * count + 1)
        (at + 9 * n + count) t.b 0 (λ q. omega (arith, few))
        ∙ get_or-set_other s₂ (at + 11 * n + 3 * count) (at + 9 * n + count) t.a 0 (λ q. omega (arith, few)) ∙ get_or-set_other s₁ (at + 10 * n + count) (at + 9 * n + count) f 0
        (λ q. omega (arith, few))
        ∙ get_or-set_same m₁ (at + 9 * n + count) key 0 (omega (arith, room, len₁, few))

    number_new : get_or v (at + 10 * n + count) 0 ≡ f
    unfolding v s₄ s₃ s₂
    number_new =
        get_or-set_other s₄ (at + 11 * n + 3 * count + 2) (at + 10 * n + count) t.c 0 (λ q. omega (arith, few)) ∙ get_or-set_other s₃ (at + 11 * n + 3 * count + 1)
        (at + 10 * n + count) t.b 0 (λ q. omega (arith, few))
        ∙ get_or-set_other s₂ (at + 11 * n + 3 * count) (at + 10 * n + count) t.a 0 (λ q. omega (arith, few))
        ∙ get_or-set_same s₁ (at + 10 * n + count) f 0 (omega (arith, room, l₁, few))

    a_new : get_or v (at + 11 * n + 3 * count) 0 ≡ t.a
    unfolding v s₄ s₃
    a_new =
        get_or-set_other s₄ (at + 11 * n + 3 * count + 2) (at + 11 * n + 3 * count) t.c 0 (λ q. omega arith) ∙ get_or-set_other s₃ (at + 11 * n + 3 * count + 1)
        (at + 11 * n + 3 * count) t.b 0 (λ q. omega arith)
        ∙ get_or-set_same s₂ (at + 11 * n + 3 * count) t.a 0 (omega (arith, room, l₂, few))

    b_new : get_or v (at + 11 * n + 3 * count + 1) 0 ≡ t.b
    unfolding v s₄
    b_new =
        get_or-set_other s₄ (at + 11 * n + 3 * count + 2) (at + 11 * n + 3 * count + 1) t.c 0 (λ q. omega arith)
        ∙ get_or-set_same s₃ (at + 11 * n + 3 * count + 1) t.b 0 (omega (arith, room, l₃, few))

    c_new : get_or v (at + 11 * n + 3 * count + 2) 0 ≡ t.c
    unfolding v
    c_new = get_or-set_same s₄ (at + 11 * n + 3 * count + 2) t.c 0 (omega (arith, room, l₄, few))

    key_old : (k : ℕ) → k < count → get_or v (at + 9 * n + k) 0 ≡ get_or m (at + 9 * n + k) 0
    key_old k lt =
        other (at + 9 * n + k) (λ q. omega arith) (λ q. omega (arith, few)) (λ q. omega (arith, few)) (λ q. omega (arith, few)) (λ q. omega (arith, few))
        ∙ rest₁ (at + 9 * n + k) (λ j l d. omega (arith, few))

    number_old : (k : ℕ) → k < count → get_or v (at + 10 * n + k) 0 ≡ get_or m (at + 10 * n + k) 0
    number_old k lt =
        other (at + 10 * n + k) (λ q. omega (arith, few)) (λ q. omega arith) (λ q. omega (arith, few)) (λ q. omega (arith, few)) (λ q. omega (arith, few))
        ∙ rest₁ (at + 10 * n + k) (λ j l d. omega (arith, few))

    corner_old : (k : ℕ) → k < 3 * count → get_or v (at + 11 * n + k) 0 ≡ get_or m (at + 11 * n + k) 0
    corner_old k lt =
        other (at + 11 * n + k) (λ q. omega (arith, few)) (λ q. omega (arith, few)) (λ q. omega arith) (λ q. omega arith) (λ q. omega arith)
        ∙ rest₁ (at + 11 * n + k) (λ j l d. omega (arith, few))

    -- ---- the lists that the table holds

    keys_more : view v (at + 9 * n) (count + 1) ≡ view m (at + 9 * n) count ++ (key ∷ [])
    keys_more = view_more m v (at + 9 * n) count key (omega (arith, room, few)) len key_old key_new

    numbers_more : view v (at + 10 * n) (count + 1) ≡ view m (at + 10 * n) count ++ (f ∷ [])
    numbers_more = view_more m v (at + 10 * n) count f (omega (arith, room, few)) len number_old number_new

    corners_more : view v (at + 11 * n) (3 * (count + 1)) ≡ view m (at + 11 * n) (3 * count) ++ (t.a ∷ t.b ∷ t.c ∷ [])
    corners_more =
        ap (view v (at + 11 * n)) (let z : 3 * (count + 1) ≡ 3 * count + 1 + 1 + 1 = omega arith in z)
        ∙ view_more v v (at + 11 * n) (3 * count + 1 + 1) t.c (omega (arith, room, few, len)) refl (λ k lt. refl) (subst (λ (x : ℕ). get_or v x 0 ≡ t.c) (two at n count) c_new)
        ∙ ap (λ (l : List ℕ). l ++ (t.c ∷ []))
        (view_more v v (at + 11 * n) (3 * count + 1) t.b (omega (arith, room, few, len)) refl (λ k lt. refl) (subst (λ (x : ℕ). get_or v x 0 ≡ t.b) (one at n count) b_new)
        ∙ ap (λ (l : List ℕ). l ++ (t.b ∷ [])) (view_more m v (at + 11 * n) (3 * count) t.a (omega (arith, room, few)) len corner_old a_new))
        ∙ joined (view m (at + 11 * n) (3 * count)) t.a t.b t.c
      where
        one : (at n count : ℕ) → at + 11 * n + 3 * count + 1 ≡ at + 11 * n + (3 * count + 1)
        one at n count = omega arith

        two : (at n count : ℕ) → at + 11 * n + 3 * count + 2 ≡ at + 11 * n + (3 * count + 1 + 1)
        two at n count = omega arith

        joined : (l : List ℕ) (x y z : ℕ) → ((l ++ (x ∷ [])) ++ (y ∷ [])) ++ (z ∷ []) ≡ l ++ (x ∷ y ∷ z ∷ [])
        joined [] x y z = refl
        joined (u ∷ l) x y z = ap (λ (r : List ℕ). u ∷ r) (joined l x y z)

    abbrev hash : ℕ → ℕ
    hash k = word_bucket (view v (at + 9 * n) (count + 1)) (4 * n) k

    linked_new : Linked hash v at (4 * n) (count + 1)
    unfolding m₁
    linked_new =
        linked_same hash m₁ v at (4 * n) (count + 1) (len ∙ sym len₁)
        (λ x lt. other (at + x) (λ q. omega (arith, few)) (λ q. omega (arith, few)) (λ q. omega (arith, few)) (λ q. omega (arith, few)) (λ q. omega (arith, few)))
        (linked_more hash m at (4 * n) count b (B.is ∙ ap (λ (x : ℕ). bucket_of x 0 0 (4 * n)) (sym (new_is ∙ key_new))) B.low (omega (arith, room, few))
        (linked_cong (word_bucket (view m (at + 9 * n) count) (4 * n)) hash m at (4 * n) count
        (λ k lt. ap (λ (x : ℕ). bucket_of x 0 0 (4 * n)) (view_at m (at + 9 * n) count k lt ∙ sym (key_old k lt) ∙ sym (view_at v (at + 9 * n) (count + 1) k (omega arith))))
        G.linked))
      where
        new_is : get_or (view v (at + 9 * n) (count + 1)) count 0 ≡ get_or v (at + 9 * n + count) 0
        new_is = view_at v (at + 9 * n) (count + 1) count (omega arith)

    pub through : passes eps points facets (passed eps points facets f) (facet_at facets f) ≡ true
        → FacetFiltered eps points facets at n (f + 1) (count + 1) m
        (set (set (set (set (set (linked_in m at (4 * n) count b) (at + 9 * n + count) key) (at + 10 * n + count) f) (at + 11 * n + 3 * count) t.a) (at + 11 * n + 3 * count + 1)
        t.b) (at + 11 * n + 3 * count + 2) t.c)
    unfolding v s₄ s₃ s₂ s₁ m₁ flat_map
    through e =
        let s = sym (passed_too eps points facets f e) in
        record {
          going =
              record {
                done = omega arith;
                within = omega (arith, G.within);
                linked = linked_new;
                keys = keys_more ∙ ap (λ (l : List ℕ). l ++ (key ∷ [])) G.keys
                    ∙ ap (λ (x : ℕ). map (λ i. corners_key (facet_at facets i)) (passed eps points facets f) ++ (x ∷ [])) (K ∙ ap corners_key T)
                    ∙ sym (map-append (λ i. corners_key (facet_at facets i)) (passed eps points facets f) (f ∷ [])) ∙ ap (map (λ i. corners_key (facet_at facets i))) s;
                numbers = numbers_more ∙ ap (λ (l : List ℕ). l ++ (f ∷ [])) G.numbers ∙ s;
                corners = corners_more ∙ ap (λ (l : List ℕ). l ++ (t.a ∷ t.b ∷ t.c ∷ [])) G.corners
                    ∙ ap (λ (u : Triangle ℕ). flat (map (facet_at facets) (passed eps points facets f)) ++ vertices u) T
                    ∙ one_flat (map (facet_at facets) (passed eps points facets f)) (facet_at facets f)
                    ∙ ap flat (sym (map-append (facet_at facets) (passed eps points facets f) (f ∷ []))) ∙ ap (λ (l : List ℕ). flat (map (facet_at facets) l)) s;
              };
          rest = λ x q. other x (λ e. omega arith) (λ e. omega arith) (λ e. omega arith) (λ e. omega arith) (λ e. omega arith) ∙ rest₁ x (λ j l d. omega arith);
        }
      where
        one_flat : (l : List (Triangle ℕ)) (u : Triangle ℕ) → flat l ++ vertices u ≡ flat (l ++ (u ∷ []))
        one_flat l u = sym (flat_append l (u ∷ []))

-- ---- the first facet and the last

pub going_start : (eps : Float) (points : List Point) (facets : List (Triangle ℕ)) (at n : ℕ) (m v : List ℕ) → at + 14 * n ≤ length m → PartZeroed m v at (8 * n) → FacetFiltered eps
    points facets at n 0 0 m v
unfolding passed flat_map
going_start eps points facets at n m v room z =
    record {
      going =
          record {
            done = omega arith;
            within = omega arith;
            linked = linked_none (word_bucket (view v (at + 9 * n) 0) (4 * n)) v at (4 * n) (omega (arith, z.long)) (λ i h. z.zero i (omega arith));
            keys = refl;
            numbers = refl;
            corners = none;
          };
      rest = λ x q. z.rest x (λ i l e. omega arith);
    }
  where
    none : view v (at + 11 * n) (3 * 0) ≡ []
    none = refl

-- the same welded vertices, in a room that is as it was below the table
module _ (w : WeldedAt) (vs : List Float) (fs : List ℕ) (at n : ℕ) (m v : List ℕ) (N : CornersNumbered w vs fs at n m) (e : length v ≡ length m)
    (rest : (x : ℕ) → x < at → get_or v x 0 ≡ get_or m x 0) where
  pub same_kept : kept_in_room w v ≡ kept_in_room w m
  same_kept = view_same m v w.kept w.count (let k = N.kept_in in let r = N.room in omega arith) e (λ i h. rest (w.kept + i) (let k = N.kept_in in omega arith))

  pub same_numbers : numbers_in_room w vs v ≡ numbers_in_room w vs m
  same_numbers =
      view_same m v w.numbers (length vs / 3) (let k = N.numbers_in in let r = N.room in omega arith) e (λ i h. rest (w.numbers + i) (let k = N.numbers_in in omega arith))

  pub still_numbered : CornersNumbered w vs fs at n v
  still_numbered = record {
    kept_in = N.kept_in;
    numbers_in = N.numbers_in;
    room = let r = N.room in omega arith;
    facets = N.facets;
    small = N.small;
    few = N.few;
    corner = N.corner;
    new = λ i h. rw (rest (w.numbers + i) (let k = N.numbers_in in omega arith)) (N.new i h);
    old = λ k h. rw (rest (w.kept + k) (let q = N.kept_in in omega arith)) (N.old k h);
  }

  module _ (eps : Float) (f count : ℕ) where
    pub turn_same : (u : List ℕ) → FilteredSoFar eps (points_in_room w vs m) (facets_in_room w vs fs m) at n f count u → FilteredSoFar eps (points_in_room w vs v)
        (facets_in_room w vs fs v) at n f count u
    turn_same u G =
        subst (λ (l : List ℕ). FilteredSoFar eps (map (vertex_of vs) l) (facets_in_room w vs fs v) at n f count u) (sym same_kept)
        (subst (λ (l : List ℕ). FilteredSoFar eps (points_in_room w vs m) (map (mapped (λ x. get_or l x 0)) (threes fs)) at n f count u) (sym same_numbers) G)

    pub turned_on : (u : List ℕ) → FacetFiltered eps (points_in_room w vs v) (facets_in_room w vs fs v) at n f count v u → FacetFiltered eps (points_in_room w vs m)
        (facets_in_room w vs fs m) at n f count m u
    turned_on u U =
        record {
          going =
              subst (λ (l : List ℕ). FilteredSoFar eps (map (vertex_of vs) l) (facets_in_room w vs fs m) at n f count u) same_kept
              (subst (λ (l : List ℕ). FilteredSoFar eps (points_in_room w vs v) (map (mapped (λ x. get_or l x 0)) (threes fs)) at n f count u) same_numbers U.going);
          rest = λ x q. U.rest x q ∙ rest x q;
        }

pub filtered : (eps : Float) (points : List Point) (facets : List (Triangle ℕ)) (at n f count : ℕ) (m v : List ℕ) → FacetFiltered eps points facets at n f count m v → length v ≡
    length m → n ≤ f
    → Filtered eps points facets at n count m v
filtered eps points facets at n f count m v U e h =
    let z : f ≡ n = omega (arith, U.going.done) in
    let g = subst (λ (k : ℕ). FilteredSoFar eps points facets at n k count v) z U.going in
    record { few = g.within; numbers = g.numbers; corners = g.corners; long = e; rest = U.rest }

pub none_filtered : (eps : Float) (points : List Point) (facets : List (Triangle ℕ)) (at n : ℕ) (m : List ℕ) → n ≡ 0 → Filtered eps points facets at n 0 m m
unfolding passed flat_map
none_filtered eps points facets at n m e =
    subst (λ (k : ℕ). Filtered eps points facets at k 0 m m) (sym e) (record { few = omega arith; numbers = refl; corners = refl; long = refl; rest = λ x q. refl })
