-- How many words the four results have that stand in the room. Assumes nothing.
--   SixShort, six_short   no face has more than n numbers, one by one
--   blocks_few       as many lists of at most m words
--   candidates_long, all_lists_long, constraints_long, edges_long, edges_few   the four lengths, and a bound
use Prim.Native.Nat.{ℕ, zero, suc, ◌+◌, ◌*◌, ◌≤◌, ◌<◌}
use native.Mathlib.Nat.{suc-mul}
use native.Mathlib.Omega.{arith}
use mathlib.Core.Bool.{Bool, true, false, cond}
use mathlib.Core.Path.{◌≡◌, refl, sym, ap, ◌∙◌}
use mathlib.Core.List.{List, [], ◌∷◌, map, flat_map}
use lib.ListN.{length, get_or, length-append, length-map}
use Rattle.lists.specs.Lists.{up_from, up_to}
use Rattle.lists.specs.Regions.{view}
use Rattle.lists.proofs.Regions.{view_length}
use Rattle.lists.proofs.Sequences.{flat_up}
use Rattle.box_faces.specs.Faces.{has_bit}
use Rattle.candidate_pool.specs.OpenEdges.{open_edge_words}
use Rattle.candidate_constraints.specs.Constraints.{constraint_words}
use Rattle.candidate_pool.specs.Offsets.{pool_end, constraints_at, open_edges_at}
use Rattle.candidate_pool.specs.Standing.{count_at, pool_at, edges_at}
use Rattle.candidate_constraints.specs.Steps.{unpacked}
use Rattle.candidate_outputs.specs.Outputs.{candidate_words, list_words}
use Rattle.candidate_outputs.specs.Written.{face_words, Readable}
use Rattle.candidate_outputs.proofs.Blocks.{threes_long, edge_block, faces_are, edges_are, lists_long, numbers_long}

pub record SixShort (w : List ℕ) (n : ℕ) : Type 0 where
  pub zeroth : get_or w 0 0 ≤ n
  pub first : get_or w 1 0 ≤ n
  pub second : get_or w 2 0 ≤ n
  pub third : get_or w 3 0 ≤ n
  pub fourth : get_or w 4 0 ≤ n
  pub fifth : get_or w 5 0 ≤ n

pub six_short : (w : List ℕ) (n : ℕ) → ((f : ℕ) → f < 6 → get_or w f 0 ≤ n) → SixShort w n
six_short w n h =
    record {
      zeroth = h 0 (omega arith);
      first = h 1 (omega arith);
      second = h 2 (omega arith);
      third = h 3 (omega arith);
      fourth = h 4 (omega arith);
      fifth = h 5 (omega arith);
    }

pub blocks_few : (block : ℕ → List ℕ) (m k : ℕ) → ((i : ℕ) → length (block i) ≤ m) → length (flat_map block (up_to k)) ≤ k * m
unfolding up_from flat_map
blocks_few block m zero h = omega arith
blocks_few block m (suc k) h =
    let q : suc k ≡ k + 1 = omega arith in
    let e = ap (λ (x : ℕ). length (flat_map block (up_to x))) q ∙ ap length (flat_up block k) ∙ length-append (flat_map block (up_to k)) (block k) in
    let a = blocks_few block m k h in
    let b = h k in
    let d : suc k * m ≡ k * m + m = simp suc-mul refl in
    omega (arith, e, a, b, d)

face_few : (mask a b f : ℕ) → length (face_words mask a b f) ≤ 3
face_few mask a b f = go (has_bit mask f)
  where
    go : (p : Bool) → length (cond p (f ∷ a ∷ b ∷ []) []) ≤ 3
    go true = omega arith
    go false = omega arith

few_words : (w : List ℕ) (at i : ℕ) → length (edge_block w at i) ≤ 18
few_words w at i =
    let mask = get_or w (at + 3 * i + 2) 0 in
    let a = get_or w (at + 3 * i) 0 in
    let b = get_or w (at + 3 * i + 1) 0 in
    let e = ap length (faces_are mask a b) in
    let l = blocks_few (face_words mask a b) 3 6 (face_few mask a b) in
    omega (arith, e, l)

module _ (n nf k listed total : ℕ) (w : List ℕ) (R : Readable n nf k listed total w) where
  pub candidates_long : 5 * count_at w ≡ length (candidate_words (pool_at n w).all)
  candidates_long = sym (ap length R.words ∙ view_length w 8 (5 * count_at w) (let a = R.size in let b = R.few in omega arith))

  size : pool_end n ≤ length w
  size = let a = R.size in omega arith

  pub all_lists_long : (s : ℕ) → s ≡ get_or w 0 0 + (get_or w 1 0 + (get_or w 2 0 + (get_or w 3 0 + (get_or w 4 0 + get_or w 5 0)))) → 6 + s ≡ length (list_words (pool_at n w).lists)
  all_lists_long s e = let a = lists_long n w size R.short in let b = numbers_long n w size R.short in omega (arith, a, b, e)

  pub constraints_long : 3 * total ≡ length (constraint_words (map unpacked (view w (constraints_at n nf) total)))
  constraints_long =
      sym
      (threes_long (λ c. c.face ∷ c.smaller ∷ c.greater ∷ []) (λ c. refl) (map unpacked (view w (constraints_at n nf) total))
      ∙ ap (λ (x : ℕ). 3 * x)
      (length-map (view w (constraints_at n nf) total) unpacked ∙ view_length w (constraints_at n nf) total (let a = R.size in let b = R.constraints in omega arith)))

  pub edges_long : 3 * listed ≡ length (open_edge_words (edges_at w (open_edges_at n nf) k))
  edges_long = ap (λ (x : ℕ). 3 * x) R.faces_listed ∙ sym (threes_long (λ e. e.face ∷ e.from ∷ e.to ∷ []) (λ e. refl) (edges_at w (open_edges_at n nf) k))

  pub edges_few : 3 * listed ≤ 54 * nf
  edges_few =
      let at = open_edges_at n nf in
      let a = blocks_few (edge_block w at) 18 k (few_words w at) in
      let b = ap length (edges_are w at k) in
      let c = R.edges in
      omega (arith, a, b, c, edges_long)
