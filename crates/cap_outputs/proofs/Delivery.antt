-- Laws of both outputs: test 12, and the writing. Assumes nothing.
--   short_vertices, short_facets, done   test 12, and a mesh written
--   mesh_numbers, mesh_facets            a mesh as it came is the lists that it came in
--   caps_few, many_few, own_least, fresh_room, fresh_is, fresh_count, read_stored, low_at   what the writing of a closed mesh asks
--   vertices_long, vertices_laid, firsts_long, facets_long, facets_laid   a closed mesh, in two parts
use Prim.Native.Nat.{ℕ, ◌+◌, ◌*◌, ◌-◌, ◌/◌, ◌%◌, ◌≤◌, ◌<◌}
use native.Mathlib.Omega.{arith}
use mathlib.Core.Bool.{Bool}
use mathlib.Core.List.{List, [], ◌∷◌, ◌++◌}
use mathlib.Core.Path.{◌≡◌, refl, sym, ap, subst, ◌∙◌}
use lib.Dec.{eqb}
use lib.ListN.{length, get_or, take, drop, length-append, length-map}
use lib.Seq.{sets}
use lib.Ieee.{Float}
use Rattle.lists.specs.Lists.{keep, up_to}
use Rattle.lists.specs.Regions.{view}
use Rattle.lists.proofs.Regions.{view_length, view_at}
use Rattle.lists.proofs.Places.{length_up}
use Rattle.lists.proofs.Counts.{count_le}
use Rattle.lists.proofs.Stores.{sets_append}
use Rattle.words.specs.Overlay.{overlay}
use Rattle.words.proofs.Overlay.{sets_overlay}
use Rattle.geometry.specs.Triangles.{threes, flat}
use Rattle.geometry.specs.Meshes.{Mesh, mesh_of, points_of, coordinates}
use Rattle.geometry.proofs.Threes.{length_flat, flat_append, flat_threes}
use Rattle.geometry.proofs.Meshes.{coordinates_append, coordinates_points_of}
use Rattle.refusals.specs.declared.refusal.Refusal.TheVariants.{NoRoom}
use Rattle.candidate_pool.specs.Offsets.{entry_at}
use Rattle.std.specs.Prelude.{Ok, Err}
use Rattle.refusals.specs.Refusals.{documented_reply}
use Rattle.refusals.specs.Answers.{output, mesh_outputs, Answer}
use Rattle.refusals.proofs.Answers.{short, done as all_done}
use Rattle.candidate_pool.specs.Standing.{PointStored}
use Rattle.cap_closing.specs.Closing.{own_facets}
use Rattle.cap_closing.specs.Entering.{fresh_at, left_at, firsts_at, vertices_at, fresh_in, facet_in, firsts_in}
use Rattle.cap_outputs.specs.Written.{points_in, all_cap_words, closed_mesh_in, Deliverable}
use Rattle.cap_outputs.proofs.Blocks.{fresh_long, own_long, caps_are}

-- ---- test 12: a mesh of x coordinates and y numbers

module _ (m : Mesh) (x y : ℕ) (ex : x ≡ length (coordinates m.points)) (ey : y ≡ length (flat m.facets)) (v : List Float) (f : List ℕ) where
  pub short_vertices : length v < x → Answer [] (mesh_outputs m v v f f) (documented_reply (Err (NoRoom x)))
  short_vertices h = short [] (output (coordinates m.points) v v) (output (flat m.facets) f f ∷ []) x ex tt h (refl, (refl, tt))

  pub short_facets : x ≤ length v → length f < y → Answer [] (mesh_outputs m v v f f) (documented_reply (Err (NoRoom y)))
  short_facets h g = short (output (coordinates m.points) v v ∷ []) (output (flat m.facets) f f) [] y ey (omega (arith, ex, h), tt) g (refl, (refl, tt))

  pub done : x ≤ length v → y ≤ length f → (v' : List Float) (f' : List ℕ) → v' ≡ overlay (coordinates m.points) v → f' ≡ overlay (flat m.facets) f
      → Answer [] (mesh_outputs m v v' f f') (documented_reply (Ok (x ∷ y ∷ [])))
  done h g v' f' a b =
      all_done (output (coordinates m.points) v v' ∷ output (flat m.facets) f f' ∷ []) (x ∷ y ∷ []) (λ t. ex t ∷ ey t ∷ []) (omega (arith, ex, h), (omega (arith, ey, g), tt)) (a, (b, tt))

-- ---- the mesh as it came

module _ (vs : List Float) (fs : List ℕ) (whole_vertices : length vs % 3 ≡ 0) (whole_facets : length fs % 3 ≡ 0) where
  pub mesh_numbers : vs ≡ coordinates (mesh_of vs fs).points
  mesh_numbers = sym (coordinates_points_of vs whole_vertices)

  pub mesh_facets : fs ≡ flat (mesh_of vs fs).facets
  mesh_facets = sym (flat_threes fs whole_facets)

-- ---- the closed mesh, in two parts

-- first `a` from 0 on, then `b` behind it
two_parts : {A : Type 0} (old mid new a b : List A) (at : ℕ) → at ≡ length a → mid ≡ sets old 0 a → new ≡ sets mid at b → length (a ++ b) ≤
    length old → new ≡ overlay (a ++ b) old
two_parts old mid new a b at e h k room =
    let q : at ≡ 0 + length a = omega arith in
    k ∙ (λ t. sets (h t) (q t) b) ∙ sym (sets_append old 0 a b) ∙ sets_overlay (a ++ b) old room

-- va, fa, la and ra: where the tables stand, as they were computed
module _ (vs : List Float) (fs : List ℕ) (n nc left caps : ℕ) (positive : Bool) (w : List ℕ) (D : Deliverable vs fs n nc left caps w) where
  abbrev nf : ℕ
  nf = length fs / 3

  abbrev nv : ℕ
  nv = length vs / 3

  abbrev m : Mesh
  m = closed_mesh_in vs fs n nc positive left w

  pub caps_few : caps ≤ 1048576
  caps_few =
      let a = D.count in
      let b = length-map (keep (λ i. eqb (get_or w (firsts_at n nf nc + i) 0) 1) (up_to left)) (facet_in n nf nc w) in
      let c = count_le (λ i. eqb (get_or w (firsts_at n nf nc + i) 0) 1) (up_to left) in
      let d = length_up 0 left in
      omega (arith, a, b, c, d, D.left_few, D.few_caps)

  module _ (va : ℕ) (ev : va ≡ vertices_at n nf nc) where
    abbrev many : ℕ
    many = get_or w va 0

    many_is : many ≡ get_or w (vertices_at n nf nc) 0
    many_is = ap (λ (x : ℕ). get_or w x 0) ev

    pub many_few : many ≤ 65536 + 1048576
    many_few = let e = many_is in omega (arith, e, D.most, D.lists.few_vertices, D.small)

    pub own_least : nv ≤ many
    own_least = let e = many_is in omega (arith, e, D.own)

    abbrev newest : ℕ → List Float
    newest fa = coordinates (points_in w (view w fa (many - nv)))

    newest_is : (fa : ℕ) → fa ≡ fresh_at n nf nc → coordinates (points_in w (fresh_in n nf nc w nv)) ≡ newest fa
    newest_is fa e = λ t. coordinates (points_in w (view w (sym e t) (sym many_is t - nv)))

    pub fresh_room : (fa : ℕ) → fa ≡ fresh_at n nf nc → fa + (many - nv) ≤ length w
    fresh_room fa e = let a = many_is in omega (arith, e, a, D.size, D.most, D.own)

    pub fresh_stored : (fa : ℕ) → fa ≡ fresh_at n nf nc → (i : ℕ) → i < many - nv → PointStored w (entry_at (get_or w (fa + i) 0)) × (entry_at (get_or w (fa + i) 0) + 2 < length w)
    fresh_stored fa e i h =
        let a = many_is in
        let b : get_or w (fa + i) 0 ≡ get_or w (fresh_at n nf nc + i) 0 = ap (λ (x : ℕ). get_or w (x + i) 0) e in
        let c = D.fresh i (omega (arith, a, h)) in
        (D.stored (get_or w (fa + i) 0) (omega (arith, b, c)), omega (arith, b, c, D.few, D.size))

    -- the new vertices' candidates as the code reads them, from their first place to their end
    abbrev pub fresh_read : ℕ → List ℕ
    fresh_read fa = take (fa + (many - nv) - fa) (drop fa w)

    pub fresh_is : (fa : ℕ) → fresh_read fa ≡ view w fa (many - nv)
    fresh_is fa = let e : fa + (many - nv) - fa ≡ many - nv = omega arith in ap (λ (m : ℕ). take m (drop fa w)) e

    pub fresh_count : (fa : ℕ) → fa ≡ fresh_at n nf nc → length (fresh_read fa) ≡ many - nv
    fresh_count fa e = ap length (fresh_is fa) ∙ view_length w fa (many - nv) (fresh_room fa e)

    pub read_stored : (fa : ℕ) → fa ≡ fresh_at n nf nc → (i : ℕ) → i < length (fresh_read fa)
        → PointStored w (entry_at (get_or (fresh_read fa) i 0)) × (entry_at (get_or (fresh_read fa) i 0) + 2 < length w)
    read_stored fa e i h =
        let k : i < many - nv = omega (arith, h, fresh_count fa e) in
        let g = ap (λ (l : List ℕ). get_or l i 0) (fresh_is fa) ∙ view_at w fa (many - nv) i k in
        subst (λ (c : ℕ). PointStored w (entry_at c) × (entry_at c + 2 < length w)) (sym g) (fresh_stored fa e i k)

    vertices_are : (fa : ℕ) → fa ≡ fresh_at n nf nc → coordinates m.points ≡ vs ++ newest fa
    vertices_are fa e =
        coordinates_append (points_of vs) (points_in w (fresh_in n nf nc w nv))
        ∙ (λ t. coordinates_points_of vs D.lists.whole_vertices t ++ newest_is fa e t)

    pub vertices_long : 3 * many ≡ length (coordinates m.points)
    vertices_long =
        let a = ap length (vertices_are (fresh_at n nf nc) refl) ∙ length-append vs (newest (fresh_at n nf nc)) in
        let b = fresh_long w (view w (fresh_at n nf nc) (many - nv)) in
        let d = view_length w (fresh_at n nf nc) (many - nv) (fresh_room (fresh_at n nf nc) refl) in
        let c = own_least in
        omega (arith, a, b, c, d, D.lists.whole_vertices)

    pub vertices_laid : (fa : ℕ) → fa ≡ fresh_at n nf nc → (v mid new : List Float) → 3 * many ≤ length v → mid ≡ overlay vs v → new ≡ sets mid (length vs) (newest fa)
        → new ≡ overlay (coordinates m.points) v
    vertices_laid fa e v mid new h a b =
        let l = vertices_long in
        let c = ap length (vertices_are fa e) in
        let d = length-append vs (newest fa) in
        two_parts v mid new vs (newest fa) (length vs) refl (a ∙ sym (sets_overlay vs v (omega (arith, h, l, c, d)))) b (omega (arith, h, l, c))
        ∙ ap (λ (x : List Float). overlay x v) (sym (vertices_are fa e))

  abbrev own : List ℕ
  own = flat (own_facets positive (threes fs))

  abbrev firsts : ℕ → ℕ → List ℕ
  firsts la ra = all_cap_words w la ra left

  firsts_are : (la ra : ℕ) → la ≡ left_at n nf nc → ra ≡ firsts_at n nf nc → flat (firsts_in n nf nc w left) ≡ firsts la ra
  firsts_are la ra el er = sym (caps_are w (left_at n nf nc) (firsts_at n nf nc) left) ∙ (λ t. firsts (sym el t) (sym er t))

  facets_are : (la ra : ℕ) → la ≡ left_at n nf nc → ra ≡ firsts_at n nf nc → flat m.facets ≡ own ++ firsts la ra
  facets_are la ra el er = flat_append (own_facets positive (threes fs)) (firsts_in n nf nc w left) ∙ ap (λ (l : List ℕ). own ++ l) (firsts_are la ra el er)

  pub firsts_long : (la ra : ℕ) → la ≡ left_at n nf nc → ra ≡ firsts_at n nf nc → length (firsts la ra) ≡ 3 * caps
  firsts_long la ra el er = sym (ap length (firsts_are la ra el er)) ∙ length_flat (firsts_in n nf nc w left) ∙ ap (λ (x : ℕ). 3 * x) (sym D.count)

  pub low_at : (la : ℕ) → la ≡ left_at n nf nc → (j : ℕ) → j < 3 * left → get_or w (la + j) 0 < 2097152
  low_at la e j h = let a = ap (λ (x : ℕ). get_or w (x + j) 0) e in let b = D.low j h in omega (arith, a, b)

  pub facets_long : length fs + 3 * caps ≡ length (flat m.facets)
  facets_long =
      let a = ap length (facets_are (left_at n nf nc) (firsts_at n nf nc) refl refl) ∙ length-append own (firsts (left_at n nf nc) (firsts_at n nf nc)) in
      let b = own_long fs D.lists.whole_facets positive in
      let c = firsts_long (left_at n nf nc) (firsts_at n nf nc) refl refl in
      omega (arith, a, b, c)

  pub facets_laid : (la ra : ℕ) → la ≡ left_at n nf nc → ra ≡ firsts_at n nf nc → (f mid new : List ℕ) → length fs + 3 * caps ≤ length f → mid ≡ sets f 0 own → new ≡ sets mid
      (length fs) (firsts la ra)
      → new ≡ overlay (flat m.facets) f
  facets_laid la ra el er f mid new h a b =
      let l = facets_long in
      let c = ap length (facets_are la ra el er) in
      two_parts f mid new own (firsts la ra) (length fs) (sym (own_long fs D.lists.whole_facets positive)) a b (omega (arith, h, l, c))
      ∙ ap (λ (x : List ℕ). overlay x f) (sym (facets_are la ra el er))
