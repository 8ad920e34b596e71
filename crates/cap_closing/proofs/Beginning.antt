-- The room before any corner is entered. Assumes nothing.
--   copy_none, copy_more, started   the loop that copies the candidates' mesh vertices
--   entering_first          the numbers given out then
--   named_first             those of the definition
--   point_of_is             the point of a candidate
use Prim.Native.Nat.{ℕ, ◌+◌, ◌*◌, ◌-◌, ◌≤◌, ◌<◌}
use mathlib.Core.Path.{◌≡◌, sym, ap, ◌∙◌, subst}
use mathlib.Core.List.{List, ◌++◌, map, append-nil, map-map}
use native.Mathlib.Omega.{arith}
use lib.ListN.{length, get_or, set, length-set}
use lib.Seq.{get_or-set_same, get_or-set_other}
use Rattle.lists.specs.Lists.{up_to}
use Rattle.lists.specs.Regions.{view}
use Rattle.lists.proofs.Regions.{Filled, filled_none, filled_more, view_map}
use Rattle.lists.proofs.Sequences.{map_below}
use Rattle.geometry.specs.declared.point.Point.{Point}
use Rattle.candidate_pool.specs.Offsets.{entry_at, keys_at}
use Rattle.candidate_pool.specs.Pool.{Candidate, no_candidate, point_of}
use Rattle.candidate_pool.specs.Standing.{count_at, candidate_at, pool_at}
use Rattle.cap_closing.specs.Entering.{MeshWords}
use Rattle.cap_closing.specs.Steps.{point_in, named_at, NamesEntering, Started}
use Rattle.cap_closing.proofs.Growth.{named_of}
use Rattle.cap_closing.proofs.Upwards.{at_place}

-- ---- the copy

module _ (b n : ℕ) (w₁ : List ℕ) (pool : keys_at n ≤ b) where
  abbrev mesh_of : ℕ → ℕ
  mesh_of c = get_or w₁ (entry_at c + 3) 0

  pub copy_none : Filled mesh_of w₁ w₁ b 0
  copy_none = filled_none mesh_of w₁ b

  module _ (v : List ℕ) (c : ℕ) (h : c < n) (size : b + n ≤ length w₁) (f : Filled mesh_of w₁ v b c) where
    given_read : get_or v (entry_at c + 3) 0 ≡ mesh_of c
    given_read = f.rest (entry_at c + 3) (λ i l e. omega arith)

    pub copy_more : (g : ℕ) → g ≡ b → Filled mesh_of w₁ (set v (g + c) (get_or v (entry_at c + 3) 0)) b (c + 1)
    copy_more g e =
        subst (λ (x : ℕ). Filled mesh_of w₁ (set v (x + c) (get_or v (entry_at c + 3) 0)) b (c + 1)) (sym e)
        (subst (λ (x : ℕ). Filled mesh_of w₁ (set v (b + c) x) b (c + 1)) (sym given_read) (filled_more mesh_of w₁ v b c (let l = f.long in omega arith) f))

-- behind the store of how many vertices there are
pub started : (b n nc nv : ℕ) (w : List ℕ) → keys_at n ≤ b → count_at w ≤ n → b + 2 * n + 8 * nc < length w → (u : ℕ) → u ≡ b + 2 * n + 8 * nc
    → (v : List ℕ) (c : ℕ) → count_at w ≤ c → c ≤ count_at w → Filled (λ j. get_or (set w u nv) (entry_at j + 3) 0) (set w u nv) v b c → Started b n nc nv w v
started b n nc nv w pool count size u e v c h l f =
    let s = length-set w u nv in
    record {
      above = record { long = f.long ∙ s; below = λ x q. f.rest x (λ i k d. omega arith) ∙ get_or-set_other w u x nv 0 (λ d. omega arith) };
      own = ap (λ (x : ℕ). get_or v x 0) (sym e) ∙ f.rest u (λ i k d. omega arith) ∙ get_or-set_same w u nv 0 (omega arith);
      given = λ j q. f.at j (omega arith) ∙ get_or-set_other w u (entry_at j + 3) nv 0 (λ d. omega arith);
    }

-- ---- and what it says

pub point_of_is : (n : ℕ) (w : List ℕ) (c : ℕ) → c < count_at w → point_of (pool_at n w) c ≡ point_in w c
unfolding pool_at
point_of_is n w c h = ap (λ (x : Candidate). x.point) (at_place (candidate_at w) no_candidate (count_at w) c h)

mesh_is : (n : ℕ) (w : List ℕ) → map (λ c. c.mesh) (pool_at n w).all ≡ map (λ c. get_or w (entry_at c + 3) 0) (up_to (count_at w))
unfolding pool_at
mesh_is n w = map-map (λ (c : Candidate). c.mesh) (candidate_at w) (up_to (count_at w))

module _ (b n nc nv : ℕ) (w w' : List ℕ) (pool : keys_at n ≤ b) (count : count_at w ≤ n) (size : b + 2 * n + 8 * nc < length w)
    (small : n < 1048576) (caps : nc ≤ 1048576) (few : nv < 1048576) (words : MeshWords nv w) (S : Started b n nc nv w w') where
  count_same : count_at w' ≡ count_at w
  count_same = S.above.below 6 (omega arith)

  pub entering_first : NamesEntering b n nc nv w'
  entering_first =
      let k = count_same in
      let l = S.above.long in
      let o = S.own in
      record {
        pool = pool;
        size = omega arith;
        count = omega arith;
        small = small;
        caps = caps;
        few = few;
        own = omega arith;
        fresh = λ i h. absurd (omega arith);
        numbered = λ i h. absurd (omega arith);
        low = λ c h. let g = S.given c (omega arith) in let m = words c (omega arith) in omega arith;
      }

  pub named_first : (points : List Point) → named_at b n nc nv points w' ≡ record { given = map (λ c. c.mesh) (pool_at n w).all; points = points }
  named_first points =
      let l = S.above.long in
      let z : get_or w' (b + 2 * n + 8 * nc) 0 - nv ≡ 0 = (let o = S.own in omega arith) in
      named_of
      (ap (view w' b) count_same ∙ view_map w' b (count_at w) (omega arith)
      ∙ map_below (λ i. get_or w' (b + i) 0) (λ c. get_or w (entry_at c + 3) 0) (count_at w) S.given ∙ sym (mesh_is n w))
      (ap (λ (k : ℕ). points ++ map (point_in w') (view w' (b + n) k)) z ∙ append-nil points)
