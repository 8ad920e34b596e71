-- Laws of what is written to the outputs: a vertex, the corners of a polygon one after another, and a fan. Assumes nothing.
--   point_put_lem                                  one vertex
--   corners_start, corners_more, corners_end   the loop over corners
--   fan_from, fan_start, fan_more, fan_end      the loop over the triangles of a fan;   length_fan   how many numbers it has
use Prim.Native.Nat.{ℕ, suc, ◌+◌, ◌*◌, ◌-◌, ◌≤◌, ◌<◌}
use mathlib.Core.List.{List, [], ◌∷◌, map, flat_map}
use mathlib.Core.Path.{◌≡◌, sym, ap, ◌∙◌}
use native.Mathlib.Omega.{arith}
use native.Mathlib.Numerals.{add-one, add-two}
use lib.ListN.{get_or, drop, set, length, length-map, drop_of_length-le}
use lib.Seq.{sets, drop-cons}
use lib.Ieee.{Float}
use Rattle.geometry.specs.declared.point.Point.{Point}
use Rattle.lists.specs.Lists.{up_from}
use Rattle.lists.proofs.Stores.{up_from_cons}
use Rattle.lists.proofs.Places.{length_up}
use Rattle.geometry.specs.Triangles.{Triangle, tri, flat}
use Rattle.geometry.specs.Meshes.{coordinates}
use Rattle.geometry.proofs.Threes.{length_flat}
use Rattle.aabb_facets.specs.Clipped.{fan}

-- ---- one vertex
pub point_put_lem : (l a b c : List Float) (k : ℕ) (p : Point) → a ≡ set l (3 * k) p.x → b ≡ set a (3 * k + 1) p.y → c ≡ set b (3 * k + 2) p.z
    → c ≡ sets l (3 * k) (coordinates (p ∷ []))
unfolding flat_map
point_put_lem l a b c k p e f g =
    g
    ∙ ap (λ (x : List Float). set x (3 * k + 2) p.z) (f ∙ ap (λ (x : List Float). set x (3 * k + 1) p.y) e)
    ∙ ap (λ (n : ℕ). set (set (set l (3 * k) p.x) n p.y) (3 * k + 2) p.z) (add-one (3 * k))
    ∙ ap (λ (n : ℕ). set (set (set l (3 * k) p.x) (suc (3 * k)) p.y) n p.z) (add-two (3 * k))

-- ---- the corners of a polygon, one after another
pub corners_more : (o r : List Float) (l : List Point) (k j : ℕ) (d p : Point) → j < length l → get_or l j d ≡ p → r ≡ sets o (3 * (k + j)) (coordinates (p ∷ []))
    → sets r (3 * (k + (j + 1))) (coordinates (drop (j + 1) l)) ≡ sets o (3 * (k + j)) (coordinates (drop j l))
unfolding flat_map
corners_more o r l k j d p h g e =
    let n : j + 1 ≡ suc j = add-one j in
    let m : 3 * (k + (j + 1)) ≡ suc (suc (suc (3 * (k + j)))) = omega arith in
    let q : drop j l ≡ p ∷ drop (suc j) l = drop-cons l j d h ∙ ap (λ (x : Point). x ∷ drop (suc j) l) g in
    ap (λ (x : ℕ). sets r x (coordinates (drop (j + 1) l))) m
    ∙ ap (λ (x : ℕ). sets r (suc (suc (suc (3 * (k + j))))) (coordinates (drop x l))) n
    ∙ ap (λ (x : List Float). sets x (suc (suc (suc (3 * (k + j))))) (coordinates (drop (suc j) l))) e
    ∙ sym (ap (λ (x : List Point). sets o (3 * (k + j)) (coordinates x)) q)

pub corners_end : (o : List Float) (i : ℕ) (l : List Point) (j : ℕ) → length l ≤ j → sets o i (coordinates (drop j l)) ≡ o
unfolding flat_map
corners_end o i l j h = ap (λ (x : List Point). sets o i (coordinates x)) (drop_of_length-le l {i = j} h)

pub corners_start : (o : List Float) (l : List Point) (k : ℕ) → sets o (3 * (k + 0)) (coordinates (drop 0 l)) ≡ sets o (3 * k) (coordinates l)
corners_start o l k = ap (λ (x : ℕ). sets o (3 * x) (coordinates l)) (omega arith)

-- ---- a fan

abbrev spoke : ℕ → ℕ → Triangle ℕ
spoke base k = tri base (base + k + 1) (base + k + 2)

-- the numbers of n triangles, from the one j on
abbrev pub fan_from : ℕ → ℕ → ℕ → List ℕ
fan_from base j n = flat (map (spoke base) (up_from j n))

pub fan_start : (o : List ℕ) (at base n : ℕ) → sets o (at + 3 * 0) (fan_from base 0 (n - 0)) ≡ sets o at (flat (fan base n))
unfolding fan
fan_start o at base n =
    let a : at + 3 * 0 ≡ at = omega arith in
    let c : n - 0 ≡ n = omega arith in
    ap (λ (x : ℕ). sets o x (fan_from base 0 (n - 0))) a ∙ ap (λ (x : ℕ). sets o at (fan_from base 0 x)) c

fan_cons : (base j n m : ℕ) → n ≡ suc m → fan_from base j n ≡ base ∷ (base + j + 1) ∷ (base + j + 2) ∷ fan_from base (suc j) m
unfolding flat_map
fan_cons base j n m e = ap (λ (l : List ℕ). flat (map (spoke base) l)) (up_from_cons j n m e)

pub fan_more : (o a b r : List ℕ) (at base n j : ℕ) → j < n → a ≡ set o (at + 3 * j) base → b ≡ set a (at + 3 * j + 1) (base + j + 1)
    → r ≡ set b (at + 3 * j + 2) (base + j + 1 + 1)
    → sets r (at + 3 * (j + 1)) (fan_from base (j + 1) (n - (j + 1))) ≡ sets o (at + 3 * j) (fan_from base j (n - j))
fan_more o a b r at base n j h e f g =
    let i = at + 3 * j in
    let m : at + 3 * (j + 1) ≡ suc (suc (suc i)) = omega arith in
    let s : n - j ≡ suc (n - (j + 1)) = omega arith in
    let z : base + j + 1 + 1 ≡ base + j + 2 = omega arith in
    let put : r ≡ set (set (set o i base) (suc i) (base + j + 1)) (suc (suc i)) (base + j + 2) =
    g ∙ ap (λ (x : List ℕ). set x (i + 2) (base + j + 1 + 1)) (f ∙ ap (λ (x : List ℕ). set x (i + 1) (base + j + 1)) e)
    ∙ (λ t. set (set (set o i base) (add-one i t) (base + j + 1)) (add-two i t) (z t)) in
    (λ t. sets (put t) (m t) (fan_from base (add-one j t) (n - (j + 1))))
    ∙ sym (ap (sets o i) (fan_cons base j (n - j) (n - (j + 1)) s))

pub fan_end : (o : List ℕ) (i base j n : ℕ) → n ≡ 0 → sets o i (fan_from base j n) ≡ o
unfolding flat_map up_from
fan_end o i base j n e = ap (λ (x : ℕ). sets o i (fan_from base j x)) e

pub length_fan : (base n : ℕ) → length (flat (fan base n)) ≡ 3 * n
unfolding fan
length_fan base n =
    length_flat (map (spoke base) (up_from 0 n)) ∙ ap (λ (k : ℕ). 3 * k) (length-map (up_from 0 n) (spoke base) ∙ length_up 0 n)
