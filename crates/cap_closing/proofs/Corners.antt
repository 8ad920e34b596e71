-- The corners of a triangle entered in turn, and the points at which they stand. Assumes nothing.
--   point_below, entered_count   the candidates stay
--   entered_three, numbers_three   three candidates entered one after the other
--   numbers_below, numbers_are   their vertices: there are such, and they are the numbers given out
--   own_point, new_point         the point of a vertex of the mesh, and of a new one
--   vertex_in          a vertex is a point of no NaN and no infinity      has_root   so that a double area has its root
use Prim.Native.Nat.{ℕ, suc, ◌+◌, ◌*◌, ◌-◌, ◌/◌, ◌≤◌, ◌<◌}
use mathlib.Core.Path.{◌≡◌, sym, ap, subst, ◌∙◌}
use mathlib.Core.List.{List, [], ◌∷◌, ◌++◌, map, foldl, foldl-append}
use native.Mathlib.Decide.{ℕ_discrete}
use native.Mathlib.Omega.{arith}
use lib.Dec.{T}
use lib.ListN.{length, get_or, get_or-append}
use lib.Ieee.{Float, binary64, of_bits}
use lib.Seq.{get_or-append-add}
use Rattle.lists.specs.Regions.{view}
use Rattle.lists.proofs.Mapped.{Each, each_map}
use Rattle.root.specs.Root.{rootable}
use Rattle.geometry.specs.declared.point.Point.{Point}
use Rattle.geometry.specs.Points.{pt, origin, norm2, normal}
use Rattle.geometry.specs.Triangles.{Triangle, tri, mapped, vertices}
use Rattle.geometry.specs.Meshes.{vertex, points_of}
use Rattle.geometry.specs.FirstUse.{Named, new_number, enter}
use Rattle.geometry.proofs.Meshes.{length_points_of}
use Rattle.geometry.proofs.Points.{PointWithin, minus_within, cross_within, norm2_rootable}
use Rattle.mesh_filter.specs.Room.{Below}
use Rattle.candidate_pool.specs.Offsets.{entry_at, keys_at}
use Rattle.candidate_pool.specs.Standing.{count_at, PointIn}
use Rattle.cap_closing.specs.Steps.{point_in, named_at, NamesEntering, NamesEntered, NewNumbers, Shaped}
use Rattle.cap_closing.proofs.Growth.{fold_cong}
use Rattle.cap_closing.proofs.Numbering.{points_at, number_at}
use Rattle.cap_closing.proofs.Upwards.{at_place}

pub point_below : (b n : ℕ) (w w' : List ℕ) → keys_at n ≤ b → ((x : ℕ) → x < b → get_or w' x 0 ≡ get_or w x 0) → (c : ℕ) → c < n → point_in w' c ≡ point_in w c
point_below b n w w' h same c l =
    let x = same (entry_at c) (omega arith) in
    let y = same (entry_at c + 1) (omega arith) in
    let z = same (entry_at c + 2) (omega arith) in
    λ t. pt (of_bits binary64 (x t)) (of_bits binary64 (y t)) (of_bits binary64 (z t))

pub entered_count : (b n nc nv : ℕ) (cs : List ℕ) (w w' : List ℕ) → NamesEntered b n nc nv cs w w' → count_at w' ≡ count_at w
entered_count b n nc nv cs w w' e = e.below 6 (let p = e.entering.pool in omega arith)

module _ (b n nc nv : ℕ) (w : List ℕ) (E : NamesEntering b n nc nv w) where
  entered_trans : (cs ds : List ℕ) (w₁ w₂ : List ℕ) → Each (λ c. c < count_at w) ds → NamesEntered b n nc nv cs w w₁ → NamesEntered b n nc nv ds w₁ w₂
      → NamesEntered b n nc nv (cs ++ ds) w w₂
  entered_trans cs ds w₁ w₂ low e f =
      let k = entered_count b n nc nv cs w w₁ e in
      record {
        entering = f.entering;
        long = f.long ∙ e.long;
        below = λ x h. f.below x h ∙ e.below x h;
        between = λ x h g. f.between x h g ∙ e.between x h g;
        stays = λ c h g. let s = e.stays c h g in f.stays c (omega arith) (omega arith) ∙ s;
        grows = let x = e.grows in let y = f.grows in omega arith;
        named = λ points own.
            f.named points own
            ∙ fold_cong (point_in w₁) (point_in w) (named_at b n nc nv points w₁) ds
            (each_map (λ c. c < count_at w) (λ c. point_in w₁ c ≡ point_in w c) (λ c h. point_below b n w w₁ E.pool e.below c (let l = E.count in omega arith)) ds low)
            ∙ ap (λ (m : Named). foldl (enter (point_in w)) m ds) (e.named points own)
            ∙ sym (foldl-append (enter (point_in w)) (named_at b n nc nv points w) cs ds);
      }

  module _ (t : Triangle ℕ) (low : Below (count_at w) t) (r : Triangle ℕ) (w₁ w₂ w₃ : List ℕ)
      (e : NamesEntered b n nc nv (t.a ∷ []) w w₁) (f : NamesEntered b n nc nv (t.b ∷ []) w₁ w₂) (g : NamesEntered b n nc nv (t.c ∷ []) w₂ w₃)
      (x : r.a + 1 ≡ get_or w₁ (b + t.a) 0) (y : r.b + 1 ≡ get_or w₂ (b + t.b) 0) (z : r.c + 1 ≡ get_or w₃ (b + t.c) 0) where
    pub entered_three : NamesEntered b n nc nv (vertices t) w w₃
    entered_three =
        entered_trans (t.a ∷ t.b ∷ []) (t.c ∷ []) w₂ w₃ (low.c, tt)
        (entered_trans (t.a ∷ []) (t.b ∷ []) w₁ w₂ (low.b, tt) e f) g

    pub numbers_three : NewNumbers b w₃ t r
    numbers_three =
        let k = entered_count b n nc nv (t.a ∷ []) w w₁ e in
        let l = entered_count b n nc nv (t.b ∷ []) w₁ w₂ f in
        let A = low.a in
        let B = low.b in
        let p = f.stays t.a (omega arith) (omega arith) in
        let q = g.stays t.a (omega arith) (omega arith) in
        let s = g.stays t.b (omega arith) (omega arith) in
        record { a = x ∙ sym p ∙ sym q; b = y ∙ sym s; c = z }

module _ (b n nc nv : ℕ) (w : List ℕ) (E : NamesEntering b n nc nv w) (t r : Triangle ℕ) (low : Below (count_at w) t) (N : NewNumbers b w t r) where
  pub numbers_below : Below (get_or w (b + 2 * n + 8 * nc) 0) r
  numbers_below =
      let x = E.low t.a low.a in
      let y = E.low t.b low.b in
      let z = E.low t.c low.c in
      let p = N.a in
      let q = N.b in
      let s = N.c in
      record { a = omega arith; b = omega arith; c = omega arith }

  pub numbers_are : (points : List Point) → length points ≡ nv → r ≡ mapped (new_number (named_at b n nc nv points w)) t
  numbers_are points own =
      let x = one t.a r.a low.a N.a in
      let y = one t.b r.b low.b N.b in
      let z = one t.c r.c low.c N.c in
      λ i. tri (x i) (y i) (z i)
    where
      one : (c k : ℕ) → c < count_at w → k + 1 ≡ get_or w (b + c) 0 → k ≡ new_number (named_at b n nc nv points w) c
      one c k h e = let q = number_at b n nc nv w E points own c h in omega arith

-- ---- where vertices stand

module _ (vs : List Float) (b n nc : ℕ) (w : List ℕ) (E : NamesEntering b n nc (length vs / 3) w) where
  abbrev all : List Point
  all = (named_at b n nc (length vs / 3) (points_of vs) w).points

  abbrev added : List Point
  added = map (point_in w) (view w (b + n) (get_or w (b + 2 * n + 8 * nc) 0 - length vs / 3))

  pub own_point : (v : ℕ) → v < length vs / 3 → vertex (points_of vs) v ≡ vertex all v
  own_point v h = sym (get_or-append (points_of vs) added origin v (let l = length_points_of vs in omega arith))

  pub new_point : (v : ℕ) → length vs / 3 ≤ v → v < get_or w (b + 2 * n + 8 * nc) 0 → point_in w (get_or w (b + n + (v - length vs / 3)) 0) ≡ vertex all v
  new_point v h l =
      let k = length_points_of vs in
      sym
      (ap (vertex all) (omega arith)
      ∙ get_or-append-add (points_of vs) added (v - length vs / 3) origin
      ∙ ap (λ (m : List Point). vertex m (v - length vs / 3)) (points_at b n nc (length vs / 3) w E)
      ∙ at_place (λ i. point_in w (get_or w (b + n + i) 0)) origin (get_or w (b + 2 * n + 8 * nc) 0 - length vs / 3) (v - length vs / 3) (omega arith))

  pub vertex_in : Shaped vs w → (v : ℕ) → v < get_or w (b + 2 * n + 8 * nc) 0 → PointIn (vertex all v)
  vertex_in S v h = go (ℕ_discrete (suc v - length vs / 3) 0)
    where
      go : Dec (suc v - length vs / 3 ≡ 0) → PointIn (vertex all v)
      go (yes e) = subst PointIn (own_point v (omega arith)) (S.vertices v (omega arith))
      go (no d) =
          let f : (suc v - length vs / 3 ≡ 0 → ⊥) = d in
          subst PointIn (new_point v (omega arith) h) (S.stored (get_or w (b + n + (v - length vs / 3)) 0) (E.fresh (v - length vs / 3) (omega arith))).within

widen : (p : Point) → PointIn p → PointWithin 48 p
widen p h = record { x = h.x; y = h.y; z = h.z }

pub has_root : (p q r : Point) → PointIn p → PointIn q → PointIn r → T (rootable (norm2 (normal (tri p q r))))
has_root p q r a b c =
    norm2_rootable 99 (omega arith)
    (cross_within 49 (omega arith) (minus_within 48 (omega arith) (widen q b) (widen p a)) (minus_within 48 (omega arith) (widen r c) (widen p a)))
