-- One vertex more, and one number more, written to an output. Assumes nothing.
use Prim.Native.Nat.{ℕ, zero, suc, ◌+◌, ◌-◌, ◌*◌, ◌≤◌, ◌<◌}
use native.Mathlib.Omega.{arith}
use mathlib.Core.Path.{◌≡◌, refl, sym, ap, subst, ◌∙◌}
use mathlib.Core.List.{List, [], ◌∷◌, map, flat_map}
use lib.ListN.{length, get_or, set, take, drop, length-map}
use lib.Seq.{sets}
use lib.Ieee.{Float, nan}
use Rattle.lists.specs.Regions.{view}
use Rattle.lists.proofs.Regions.{view_length, view_at}
use Rattle.lists.proofs.Sequences.{at_map}
use Rattle.words.specs.Overlay.{overlay}
use Rattle.words.proofs.Overlay.{Writing, writing_start, writing_turn, writing_end}
use Rattle.geometry.specs.declared.point.Point.{Point}
use Rattle.geometry.specs.Points.{origin}
use Rattle.geometry.specs.Meshes.{coordinates, vertex_of}
use Rattle.geometry.proofs.Meshes.{length_coordinates}
use Rattle.geometry.proofs.Threes.{three_set}

-- the coordinates of point k
coordinates_at : (l : List Point) (k : ℕ) (z : Float) → k < length l
    → (get_or (coordinates l) (3 * k) z ≡ (get_or l k origin).x) × ((get_or (coordinates l) (3 * k + 1) z ≡ (get_or l k origin).y) ×
    (get_or (coordinates l) (3 * k + 2) z ≡ (get_or l k origin).z))
unfolding flat_map
coordinates_at [] k z h = absurd (omega arith)
coordinates_at (p ∷ l) zero z h = (refl, (refl, refl))
coordinates_at (p ∷ l) (suc k) z h =
    let r = coordinates_at l k z (omega arith) in
    let a : 3 * suc k ≡ suc (suc (suc (3 * k))) = omega arith in
    let b : 3 * suc k + 1 ≡ suc (suc (suc (3 * k + 1))) = omega arith in
    let c : 3 * suc k + 2 ≡ suc (suc (suc (3 * k + 2))) = omega arith in (
      ap (λ (i : ℕ). get_or (coordinates (p ∷ l)) i z) a ∙ r.0,
      (ap (λ (i : ℕ). get_or (coordinates (p ∷ l)) i z) b ∙ r.1.0, ap (λ (i : ℕ). get_or (coordinates (p ∷ l)) i z) c ∙ r.1.1),
    )

module _ (vs : List Float) (order : List ℕ) where
  abbrev pub points : List Point
  points = map (vertex_of vs) order

  point_is : (k : ℕ) → k < length order → get_or points k origin ≡ vertex_of vs (get_or order k 0)
  point_is k h = at_map (vertex_of vs) order k 0 origin h

  flat_long : length (coordinates points) ≡ 3 * length order
  flat_long = length_coordinates points ∙ ap (λ (x : ℕ). 3 * x) (length-map order (vertex_of vs))

  pub vertices_start : (old : List Float) → 3 * length order ≤ length old → Writing (coordinates points) old old (3 * 0)
  vertices_start old h = writing_start (coordinates points) old (let e = flat_long in omega arith)

  module _ (old out : List Float) (k : ℕ) (R : Writing (coordinates points) old out (3 * k)) (h : k < length order) where
    -- there is room for vertex k
    pub vertex_room : 3 * k + 2 < length out
    vertex_room = let a = flat_long in let b = R.room in let c = R.same in omega arith

    three_stores : (p : Point) → p ≡ vertex_of vs (get_or order k 0) → Writing (coordinates points) old (set (set (set out (3 * k) p.x) (3 * k + 1) p.y) (3 * k + 2) p.z) (3 * (k + 1))
    three_stores p e =
        let c = coordinates_at points k nan (let l = length-map order (vertex_of vs) in omega arith) in
        let q = e ∙ sym (point_is k h) in
        let a = flat_long in
        let two : 3 * k + 1 + 1 ≡ 3 * k + 2 = omega arith in
        let end : 3 * k + 2 + 1 ≡ 3 * (k + 1) = omega arith in
        let R₁ = writing_turn (coordinates points) old out (3 * k) nan p.x R (omega arith) (ap (λ (x : Point). x.x) q ∙ sym c.0) in
        let R₂ = writing_turn (coordinates points) old (set out (3 * k) p.x) (3 * k + 1) nan p.y R₁ (omega arith) (ap (λ (x : Point). x.y) q ∙ sym c.1.0) in
        subst (λ (i : ℕ). Writing (coordinates points) old (set (set (set out (3 * k) p.x) (3 * k + 1) p.y) (3 * k + 2) p.z) i) end
        (writing_turn (coordinates points) old (set (set out (3 * k) p.x) (3 * k + 1) p.y) (3 * k + 2) nan p.z
        (subst (λ (i : ℕ). Writing (coordinates points) old (set (set out (3 * k) p.x) (3 * k + 1) p.y) i) two R₂) (omega arith) (ap (λ (x : Point). x.z) q ∙ sym c.1.1))

    pub vertices_turn : (p : Point) → p ≡ vertex_of vs (get_or order k 0) → Writing (coordinates points) old (sets out (3 * k) (p.x ∷ p.y ∷ p.z ∷ [])) (3 * (k + 1))
    vertices_turn p e = subst (λ (l : List Float). Writing (coordinates points) old l (3 * (k + 1))) (three_set out (3 * k) p.x p.y p.z) (three_stores p e)

  pub vertices_end : (old out : List Float) (k : ℕ) → Writing (coordinates points) old out (3 * k) → length order ≤ k → out ≡ overlay (coordinates points) old
  vertices_end old out k R h = writing_end (coordinates points) old out (3 * k) R (let a = flat_long in omega arith)

-- ---- numbers that stand in the work room

module _ (m : List ℕ) (at n : ℕ) (room : at + n ≤ length m) where
  numbers_long : length (view m at n) ≡ n
  numbers_long = view_length m at n room

  pub numbers_start : (old : List ℕ) → n ≤ length old → Writing (view m at n) old old 0
  numbers_start old h = writing_start (view m at n) old (let e = numbers_long in omega arith)

  pub number_room : (old out : List ℕ) (i : ℕ) → Writing (view m at n) old out i → i < n → i < length out
  number_room old out i R h = let a = numbers_long in let b = R.room in let c = R.same in omega arith

  pub numbers_turn : (old out : List ℕ) (i : ℕ) → Writing (view m at n) old out i → i < n → Writing (view m at n) old (set out i (get_or m (at + i) 0)) (i + 1)
  numbers_turn old out i R h = writing_turn (view m at n) old out i 0 (get_or m (at + i) 0) R (let e = numbers_long in omega arith) (sym (view_at m at n i h))

  pub numbers_end : (old out : List ℕ) (i : ℕ) → Writing (view m at n) old out i → n ≤ i → out ≡ overlay (view m at n) old
  numbers_end old out i R h = writing_end (view m at n) old out i R (let e = numbers_long in omega arith)

-- a part of the work room, as the code takes it
pub part_is : (w : List ℕ) (at n : ℕ) → take (at + n - at) (drop at w) ≡ view w at n
part_is w at n = let e : at + n - at ≡ n = omega arith in ap (λ (k : ℕ). take k (drop at w)) e
