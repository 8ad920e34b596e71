-- Numbers given out by first use, corner after corner: what was given stays, and so does each vertex. Assumes nothing.
--   Grown, grown_fold     what entering corners does               Sound      a number given is a vertex's
--   named_of              equal parts
--   fold_has              what was entered has a number
--   fold_cong             only the points of the corners matter
--   Corners, flat_each, each_flat   of the corners of triangles
--   kept_left             entering more changes no facet left, so that the last numbers may stand for those at hand
use Prim.Native.Nat.{ℕ, ◌+◌, ◌-◌, ◌≤◌, ◌<◌}
use mathlib.Core.Path.{◌≡◌, refl, sym, ap, ◌∙◌, subst}
use mathlib.Core.Bool.{cond, not}
use mathlib.Core.List.{List, [], ◌∷◌, ◌++◌, map, flat_map, foldl}
use native.Mathlib.Omega.{arith}
use lib.Dec.{eqb}
use lib.ListN.{length, get_or, set, length-append, get_or-append}
use lib.Ieee.{le}
use Rattle.lists.specs.Lists.{keep}
use Rattle.lists.proofs.Mapped.{Each}
use Rattle.root.specs.Doubles.{1e-12}
use Rattle.geometry.specs.declared.point.Point.{Point}
use Rattle.geometry.specs.Points.{origin, area2}
use Rattle.geometry.specs.Triangles.{Triangle, tri, mapped, flat}
use Rattle.geometry.specs.Meshes.{vertex}
use Rattle.geometry.specs.FirstUse.{Named, new_number, enter}
use Rattle.geometry.proofs.FirstUse.{enter_cases, enter_length, enter_stays, entered}
use Rattle.cap_closing.specs.Closing.{is_large}

pub record Grown (n m : Named) : Type 0 where
  pub stays : (v : ℕ) → 0 < get_or n.given v 0 → get_or m.given v 0 ≡ get_or n.given v 0
  pub points : (k : ℕ) → k < length n.points → vertex m.points k ≡ vertex n.points k
  pub more : length n.points ≤ length m.points
  pub long : length m.given ≡ length n.given

pub record Sound (n : Named) : Type 0 where
  pub low : (v : ℕ) → get_or n.given v 0 ≤ length n.points

pub named_of : {g h : List ℕ} {p q : List Point} → g ≡ h → p ≡ q → ◌≡◌ {A = Named} (record { given = g; points = p }) (record { given = h; points = q })
named_of g p = λ t. record { given = g t; points = p t }

grown_refl : (n : Named) → Grown n n
grown_refl n = record { stays = λ v h. refl; points = λ k h. refl; more = omega arith; long = refl }

grown_trans : (n m o : Named) → Grown n m → Grown m o → Grown n o
grown_trans n m o f g =
    record {
      stays = λ v h. let e = f.stays v h in g.stays v (omega arith) ∙ e;
      points = λ k h. let l = f.more in g.points k (omega arith) ∙ f.points k h;
      more = let l = f.more in let r = g.more in omega arith;
      long = g.long ∙ f.long;
    }

module _ (at : ℕ → Point) where
  grown_enter : (n : Named) (v : ℕ) → Grown n (enter at n v)
  grown_enter n v =
      record {
        stays = enter_stays at n v;
        points = λ k h. enter_cases at n v (λ m. vertex m.points k ≡ vertex n.points k) (λ e. get_or-append n.points (at v ∷ []) origin k h) (λ e. refl);
        more = enter_cases at n v (λ m. length n.points ≤ length m.points) (λ e. omega (arith, length-append n.points (at v ∷ []))) (λ e. omega arith);
        long = enter_length at n v;
      }

  pub grown_fold : (n : Named) (cs : List ℕ) → Grown n (foldl (enter at) n cs)
  grown_fold n [] = grown_refl n
  grown_fold n (v ∷ cs) = grown_trans n (enter at n v) (foldl (enter at) (enter at n v) cs) (grown_enter n v) (grown_fold (enter at n v) cs)

  each_low : (n : Named) (v : ℕ) (cs : List ℕ) → Each (λ u. u < length n.given) cs → Each (λ u. u < length (enter at n v).given) cs
  each_low n v cs h = subst (λ (k : ℕ). Each (λ u. u < k) cs) (sym (enter_length at n v)) h

  pub fold_has : (n : Named) (cs : List ℕ) → Each (λ v. v < length n.given) cs → Each (λ v. 0 < get_or (foldl (enter at) n cs).given v 0) cs
  fold_has n [] h = tt
  fold_has n (v ∷ cs) h =
      let e = entered at n v h.0 in
      let s = (grown_fold (enter at n v) cs).stays v e in
      (omega arith, fold_has (enter at n v) cs (each_low n v cs h.1))

module _ (at at' : ℕ → Point) where
  enter_cong : (n : Named) (v : ℕ) → at v ≡ at' v → enter at n v ≡ enter at' n v
  unfolding enter
  enter_cong n v e =
      ap (λ (p : Point). cond (eqb (get_or n.given v 0) 0) (record { given = set n.given v (length n.points + 1); points = n.points ++ (p ∷ []) }) n) e

  pub fold_cong : (n : Named) (cs : List ℕ) → Each (λ v. at v ≡ at' v) cs → foldl (enter at) n cs ≡ foldl (enter at') n cs
  fold_cong n [] h = refl
  fold_cong n (v ∷ cs) h = ap (λ (m : Named). foldl (enter at) m cs) (enter_cong n v h.0) ∙ fold_cong (enter at' n v) cs h.1

-- ---- the corners of triangles

abbrev pub Corners : (ℕ → Type 0) → Triangle ℕ → Type 0
Corners P t = P t.a × (P t.b × P t.c)

pub flat_each : (P : ℕ → Type 0) (ts : List (Triangle ℕ)) → Each (Corners P) ts → Each P (flat ts)
unfolding flat_map
flat_each P [] h = tt
flat_each P (t ∷ ts) h = (h.0.0, (h.0.1.0, (h.0.1.1, flat_each P ts h.1)))

pub each_flat : (P : ℕ → Type 0) (ts : List (Triangle ℕ)) → Each P (flat ts) → Each (Corners P) ts
unfolding flat_map
each_flat P [] h = tt
each_flat P (t ∷ ts) h = ((h.0, (h.1.0, h.1.1.0)), each_flat P ts h.1.1.1)

-- ---- facets that are left

module _ (n m : Named) (g : Grown n m) (s : Sound n) where
  number_kept : (v : ℕ) → 0 < get_or n.given v 0 → new_number m v ≡ new_number n v
  number_kept v h = ap (λ (x : ℕ). x - 1) (g.stays v h)

  point_kept : (v : ℕ) → 0 < get_or n.given v 0 → vertex m.points (new_number m v) ≡ vertex n.points (new_number n v)
  point_kept v h = ap (vertex m.points) (number_kept v h) ∙ g.points (new_number n v) (let l = s.low v in omega arith)

  facet_kept : (t : Triangle ℕ) → Corners (λ v. 0 < get_or n.given v 0) t → mapped (new_number m) t ≡ mapped (new_number n) t
  facet_kept t h = let x = number_kept t.a h.0 in let y = number_kept t.b h.1.0 in let z = number_kept t.c h.1.1 in λ i. tri (x i) (y i) (z i)

  large_kept : (t : Triangle ℕ) → Corners (λ v. 0 < get_or n.given v 0) t → is_large m.points (mapped (new_number m) t) ≡ is_large n.points (mapped (new_number n) t)
  unfolding is_large
  large_kept t h =
      let x = point_kept t.a h.0 in
      let y = point_kept t.b h.1.0 in
      let z = point_kept t.c h.1.1 in
      λ i. not (le (area2 (tri (x i) (y i) (z i))) 1e-12)

  pub kept_left : (ts : List (Triangle ℕ)) → Each (Corners (λ v. 0 < get_or n.given v 0)) ts
      → keep (is_large m.points) (map (mapped (new_number m)) ts) ≡ keep (is_large n.points) (map (mapped (new_number n)) ts)
  kept_left [] h = refl
  kept_left (t ∷ ts) h =
      let e = large_kept t h.0 in
      let f = facet_kept t h.0 in
      let r = kept_left ts h.1 in
      λ i. cond (e i) (f i ∷ r i) (r i)
