-- What the tests before 8 give to the functions behind them: bounds of numbers, and room. Assumes nothing.
--   resolution_within, skip_within, each_within   a resolution, a tolerance made of it, and one tolerance on each axis
--   vertices_in      every vertex is a point of no NaN and no infinity
--   grid_small, most_small   how many grid points and how many candidates there may be at most
--   mesh_fits        the mesh and the room that the functions ask for      room_for   the room for it, of what was lent
--   of_clip, to_clip   what holds of the box and eps that `clip` answers holds of those that are asked, and back
--   cut_some, cut_grid   a grid that is not too fine is cut; what is cut is the grid
--   size_of, fine_of   the number of grid points and the test of the grid, as they stand of the grid of what is asked
use Prim.Native.Nat.{ℕ, zero, suc, ◌+◌, ◌*◌, ◌/◌, ◌≤◌, ◌<◌, ◌^◌}
use native.Mathlib.Omega.{arith}
use mathlib.Core.Bool.{Bool, true, false, not}
use mathlib.Core.Path.{◌≡◌, refl, sym, ap, subst, ◌∙◌}
use mathlib.Core.List.{List}
use borrow.Author.Tests.{ltb-true, lt-ltb, not-false}
use lib.Dec.{T, ltb}
use lib.ListN.{length, get_or}
use lib.Ieee.{Float, nan, inf, fin, of_bits, neg, up, down, lt, le, eq}
use Rattle.std.specs.Prelude.{Option, None, Some}
use Rattle.std.specs.Option.{IsSome}
use Rattle.lists.proofs.Bools.{and_left, and_right, or_stop}
use Rattle.lists.proofs.Every.{every_at, none_at}
use Rattle.root.specs.Doubles.{◌⊗◌, zero_f, 2^30}
use Rattle.root.specs.Bounds.{Within}
use Rattle.root.proofs.Powers.{in_range_lem, within_pow, mul_pow}
use Rattle.geometry.specs.declared.aabb.AABB.{AABB}
use Rattle.geometry.specs.Axes.{segments, grid_size}
use Rattle.geometry.proofs.Meshes.{vertex_at}
use Rattle.input_tests.specs.declared.cuts.Cuts.{Cuts}
use Rattle.input_tests.specs.Cutting.{IsCut}
use Rattle.input_tests.specs.Front.{by_axis, bad_index, in_range, resolution_in_range, grid_too_fine}
use Rattle.input_tests.proofs.Ranges.{in_range_within}
use Rattle.input_tests.proofs.Grids.{not_too_fine, small_product}
use Rattle.candidate_pool.specs.Offsets.{room_end}
use Rattle.candidate_pool.specs.Standing.{PointIn}
use Rattle.candidate_edges.specs.Steps.{VerticesIn, MeshFits}
use Rattle.aabb_planes.specs.declared.clip.Clip.{Clip}
use Rattle.input_tests.specs.declared.grid.Grid.{Grid}
use Rattle.candidate_surface.specs.declared.asked.Asked.{Asked}
use Rattle.candidate_surface.specs.Asked.{on_each, one_resolution, clip_of, grid_of}
use Rattle.candidate_surface.specs.Steps.{Sound, most_candidates}

-- ---- numbers

false_true : {A : Type 0} → false ≡ true → A
false_true e = absurd (let z : ◌≡◌ {A = ℕ} 0 1 = cc in omega arith)

above : (r : Float) → lt zero_f r ≡ true → le r 2^30 ≡ true → le (neg 2^30) r ≡ true
unfolding lt le eq of_bits neg
above nan a b = false_true a
above (inf true) a b = false_true a
above (inf false) a b = false_true b
above (fin true m e) a b = false_true a
above (fin false m e) a b =
    let h = ltb-true (0 * 1 * down e) (m * up e * 1) a in
    or_stop (ltb 0 (1 * 1073741824 * down e + m * up e * 1)) _ (lt-ltb 0 (1 * 1073741824 * down e + m * up e * 1) (omega arith))

pub resolution_within : (r : Float) → resolution_in_range r ≡ true → Within (2 ^ 30) r
unfolding resolution_in_range
resolution_within r h =
    let a = and_left (lt zero_f r) (le r 2^30) h in
    let b = and_right (lt zero_f r) (le r 2^30) h in
    in_range_lem r (subst T (sym (above r a b)) tt) (subst T (sym b) tt)

-- whatever the factor is, if it is at most 1
pub skip_within : (r factor : Float) → resolution_in_range r ≡ true → Within (2 ^ 0) factor → Within (2 ^ 48) (r ⊗ factor)
skip_within r factor h g = within_pow 30 48 (omega arith) (mul_pow 30 0 (omega arith) (resolution_within r h) g)

pub each_within : (s : Float) → Within (2 ^ 48) s → (a : ℕ) → a < 3 → Within (2 ^ 48) (on_each s a)
each_within s h zero l = h
each_within s h (suc zero) l = h
each_within s h (suc (suc zero)) l = h
each_within s h (suc (suc (suc a))) l = absurd (omega arith)

-- ---- the mesh and the room

pub grid_small : (box : AABB) (eps : Float) (resolution : ℕ → Float) → grid_too_fine box eps resolution ≡ false → grid_size box eps resolution ≤ 399384
unfolding grid_size
grid_small box eps resolution e =
    let h = not_too_fine box eps resolution e in
    let x = segments box eps resolution 0 + 1 in
    let y = segments box eps resolution 1 + 1 in
    let z = segments box eps resolution 2 + 1 in
    let a = small_product x y (omega (arith, h.x)) (omega (arith, h.y)) in
    let b = small_product x z (omega (arith, h.x)) (omega (arith, h.z)) in
    let c = small_product y z (omega (arith, h.y)) (omega (arith, h.z)) in
    twice (x * y) (x * z) (y * z) a b c
  where
    twice : (a b c : ℕ) → a ≤ 66564 → b ≤ 66564 → c ≤ 66564 → 2 * (a + b + c) ≤ 399384
    twice a b c p q r = omega arith

module _ (vs : List Float) (fs : List ℕ) (q : Asked) (S : Sound vs fs q) where
  coordinate : (i : ℕ) → i < length vs → Within (2 ^ 48) (get_or vs i nan)
  coordinate i h = within_pow 30 48 (omega arith) (in_range_within (get_or vs i nan) (every_at in_range vs i nan S.numbers h))

  pub vertices_in : VerticesIn vs
  vertices_in v h =
      subst PointIn (sym (vertex_at vs v nan (omega arith)))
      (record { x = coordinate (3 * v) (omega arith); y = coordinate (3 * v + 1) (omega arith); z = coordinate (3 * v + 2) (omega arith) })

  pub most_small : most_candidates vs q ≤ 464920
  most_small = let a = grid_small q.extents q.eps (one_resolution q.resolution) S.coarse in let b = S.lists.few_vertices in omega (arith, a, b)

  number_below : (i : ℕ) → i < length fs → get_or fs i 0 < length vs / 3
  unfolding bad_index
  number_below i h =
      ltb-true (get_or fs i 0) (length vs / 3)
      (not-false (ltb (get_or fs i 0) (length vs / 3)) (none_at (λ k. not (ltb k (length vs / 3))) fs i 0 S.lists.below h))

  pub mesh_fits : (n : ℕ) (w : List ℕ) → n ≡ most_candidates vs q → room_end (most_candidates vs q) (length fs / 3) ≤ length w → MeshFits vs fs n w
  mesh_fits n w e h =
      record {
        threes = S.lists.whole_facets;
        numbers = number_below;
        vertices = omega (arith, e);
        small = let a = most_small in omega (arith, e, a);
        few = let b = S.lists.few_facets in omega (arith, b);
        size = omega (arith, e, h);
      }

  pub room_for : (caps lent : ℕ) → 128 * (length vs / 3 + length fs / 3 + caps + grid_size q.extents q.eps (one_resolution q.resolution)) + 1024 ≤ lent
      → room_end (most_candidates vs q) (length fs / 3) ≤ lent
  room_for caps lent h = omega arith

-- ---- the grid of what is asked

pub cut_some : (g : Grid) (r : Option Cuts) → IsCut g r → grid_too_fine g.extents g.eps (by_axis g.resolution) ≡ false → IsSome r
cut_some g None h e = false_true (sym e ∙ h)
cut_some g (Some c) h e = refl

pub cut_grid : (g : Grid) (r : Option Cuts) (c : Cuts) → IsCut g r → r ≡ Some c → c.grid ≡ g
cut_grid g r c h e = (subst (IsCut g) e h).0

module _ (q : Asked) (g : Grid) where
  pub size_of : (m : ℕ) → g ≡ grid_of q → m ≡ grid_size g.extents g.eps (by_axis g.resolution) → m ≡ grid_size q.extents q.eps (one_resolution q.resolution)
  size_of m e h = h ∙ ap (λ (x : Grid). grid_size x.extents x.eps (by_axis x.resolution)) e

  pub fine_of : (b : Bool) → g ≡ grid_of q → b ≡ grid_too_fine g.extents g.eps (by_axis g.resolution) → b ≡ grid_too_fine q.extents q.eps (one_resolution q.resolution)
  fine_of b e h = h ∙ ap (λ (x : Grid). grid_too_fine x.extents x.eps (by_axis x.resolution)) e

module _ (q : Asked) (l : Clip) (p : AABB → Float → Type 0) where
  pub of_clip : l ≡ clip_of q → p l.extents l.eps → p q.extents q.eps
  of_clip e = subst (λ (x : Clip). p x.extents x.eps) e

  pub to_clip : l ≡ clip_of q → p q.extents q.eps → p l.extents l.eps
  to_clip e = subst (λ (x : Clip). p x.extents x.eps) (sym e)
