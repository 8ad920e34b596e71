-- The loop that gathers the open edges of a face as segments. Assumes nothing.
--   Gathering                   its invariant
--   gather_start, gather_pass, gather_one, gather_end   its start, a turn at an edge of other faces, a turn at one of the face, its end
--   edge_ready                  what storing an edge asks
use Prim.Native.Nat.{ℕ, ◌+◌, ◌*◌, ◌≤◌, ◌<◌}
use native.Mathlib.Omega.{arith}
use native.Mathlib.Decide.{ℕ_discrete}
use mathlib.Core.Path.{◌≡◌, refl, sym, ap, subst, ◌∙◌}
use mathlib.Core.Bool.{Bool, true, false, ◌||◌, or-false}
use mathlib.Core.List.{List}
use lib.ListN.{length, get_or}
use lib.Ieee.{Float}
use Rattle.lists.specs.Lists.{some, up_from, up_to}
use Rattle.lists.specs.Regions.{Outside}
use Rattle.lists.proofs.Bools.{and_next, and_stop}
use Rattle.lists.proofs.Sequences.{some_up}
use Rattle.box_faces.specs.declared.uv.Uv.{Uv}
use Rattle.box_faces.specs.Faces.{project, has_bit}
use Rattle.box_faces.specs.Segments.{on_segment}
use Rattle.candidate_pool.specs.Offsets.{entry_at, open_edges_at, segments_at}
use Rattle.candidate_pool.specs.Pool.{point_of}
use Rattle.candidate_pool.specs.Standing.{count_at, point_at, pool_at, PointStored}
use Rattle.candidate_pool.proofs.Placing.{point_same, stored_same}
use Rattle.candidate_pool.proofs.Reading.{pool_point}
use Rattle.candidate_grids.specs.Steps.{SegmentAt, hit_at, skips_at, EdgeReady, SegmentGathered, edge_hit, EdgesReady, Gathered}
use Rattle.candidate_grids.proofs.Frames.{segment_same, skips_same}

pub record Gathering (n nf k face : ℕ) (tolerance : Float) (w v : List ℕ) (count i : ℕ) : Type 0 where
  pub few : count ≤ i
  pub most : i ≤ k
  pub segments : (j : ℕ) → j < count → SegmentAt v (segments_at n nf + 5 * j)
  pub skips : (p : Uv) → skips_at v (segments_at n nf) count tolerance p ≡ some (edge_hit (pool_at n w) w (open_edges_at n nf) face tolerance p) (up_to i)
  pub long : length v ≡ length w
  pub rest : (x : ℕ) → x < segments_at n nf → get_or v x 0 ≡ get_or w x 0

module _ (n nf k face : ℕ) (tolerance : Float) (w : List ℕ) where
  abbrev E : ℕ
  E = open_edges_at n nf

  abbrev S : ℕ
  S = segments_at n nf

  pub gather_start : Gathering n nf k face tolerance w w 0 0
  unfolding skips_at up_from
  gather_start = record { few = omega arith; most = omega arith; segments = λ j h. absurd (omega arith); skips = λ p. refl; long = refl; rest = λ x h. refl }

  module _ (R : EdgesReady n nf k face tolerance w) (v : List ℕ) (count i : ℕ) (G : Gathering n nf k face tolerance w v count i) (lt : i < k) where
    edges_few : k ≤ 3 * nf
    edges_few = R.edges

    word : (j : ℕ) → j < 3 → get_or v (E + 3 * i + j) 0 ≡ get_or w (E + 3 * i + j) 0
    word j h = G.rest (E + 3 * i + j) (let e = edges_few in omega arith)

    first : get_or v (E + 3 * i) 0 ≡ get_or w (E + 3 * i) 0
    first = G.rest (E + 3 * i) (let e = edges_few in omega arith)

    bit : (b : Bool) → b ≡ has_bit (get_or v (E + 3 * i + 2) 0) face → has_bit (get_or w (E + 3 * i + 2) 0) face ≡ b
    bit b e = sym (e ∙ ap (λ (m : ℕ). has_bit m face) (word 2 (omega arith)))

    pub gather_pass : (b : Bool) → b ≡ has_bit (get_or v (E + 3 * i + 2) 0) face → b ≡ false → Gathering n nf k face tolerance w v count (i + 1)
    unfolding edge_hit
    gather_pass b e f =
        record {
          few = let a = G.few in omega arith;
          most = omega arith;
          segments = G.segments;
          skips = λ p.
              G.skips p ∙ sym (or-false (some (edge_hit (pool_at n w) w E face tolerance p) (up_to i)))
              ∙ ap (λ (c : Bool). some (edge_hit (pool_at n w) w E face tolerance p) (up_to i) || c) (sym (and_stop (has_bit (get_or w (E + 3 * i + 2) 0) face) _ (bit b e ∙ f)))
              ∙ sym (some_up (edge_hit (pool_at n w) w E face tolerance p) i);
          long = G.long;
          rest = G.rest;
        }

    module _ (b : Bool) (e : b ≡ has_bit (get_or v (E + 3 * i + 2) 0) face) (t : b ≡ true) where
      from_in : get_or w (E + 3 * i) 0 < count_at w
      from_in = R.from i lt (bit b e ∙ t)

      to_in : get_or w (E + 3 * i + 1) 0 < count_at w
      to_in = R.to i lt (bit b e ∙ t)

      same_at : (c : ℕ) → c < count_at w → (x : ℕ) → x < 5 → get_or v (entry_at c + x) 0 ≡ get_or w (entry_at c + x) 0
      same_at c h x l = G.rest (entry_at c + x) (let f = R.few in omega arith)

      stored : (c d : ℕ) → d ≡ c → c < count_at w → PointStored v (entry_at d)
      stored c d q h =
          subst (λ (x : ℕ). PointStored v (entry_at x)) (sym q) (stored_same w v (entry_at c) (λ x l. same_at c h x (omega arith)) (R.stored c h))

      in_room : (c d : ℕ) → d ≡ c → c < count_at w → entry_at d + 2 < length v
      in_room c d q h = let f = R.few in let s = R.size in let l = G.long in omega arith

      pub edge_ready : EdgeReady (S + 5 * count) (E + 3 * i) tolerance v
      edge_ready =
          record {
            size = let s = R.size in let l = G.long in let f = G.few in let m = edges_few in omega arith;
            before = let m = edges_few in omega arith;
            from = stored (get_or w (E + 3 * i) 0) (get_or v (E + 3 * i) 0) first from_in;
            from_in = in_room (get_or w (E + 3 * i) 0) (get_or v (E + 3 * i) 0) first from_in;
            to = stored (get_or w (E + 3 * i + 1) 0) (get_or v (E + 3 * i + 1) 0) (word 1 (omega arith)) to_in;
            to_in = in_room (get_or w (E + 3 * i + 1) 0) (get_or v (E + 3 * i + 1) 0) (word 1 (omega arith)) to_in;
            tolerance_in = R.tolerance_in;
          }

      point : (c d : ℕ) → d ≡ c → c < count_at w → project face (point_at v (entry_at d)) ≡ project face (point_of (pool_at n w) c)
      point c d q h =
          ap (project face)
          (ap (λ (x : ℕ). point_at v (entry_at x)) q ∙ point_same w v (entry_at c) (λ x l. same_at c h x (omega arith)) ∙ sym (pool_point n w c h))

      pub gather_one : (u : List ℕ) → SegmentGathered (S + 5 * count) (E + 3 * i) face tolerance v u → Gathering n nf k face tolerance w u (count + 1) (i + 1)
      unfolding edge_hit skips_at
      gather_one u g =
          record {
            few = let a = G.few in omega arith;
            most = omega arith;
            segments = λ j h. at j (ℕ_discrete j count) h;
            skips = λ p.
                some_up (λ j. hit_at u (S + 5 * j) tolerance p) count
                ∙ ap (λ (c : Bool). c || hit_at u (S + 5 * count) tolerance p) (skips_same v u S count (λ x a l. kept x (λ y h q. omega arith)) tolerance p ∙ G.skips p)
                ∙ ap (λ (c : Bool). some (edge_hit (pool_at n w) w E face tolerance p) (up_to i) || c) (hit p)
                ∙ sym (some_up (edge_hit (pool_at n w) w E face tolerance p) i);
            long = g.long ∙ G.long;
            rest = λ x h. kept x (λ y l q. omega arith) ∙ G.rest x h;
          }
        where
          kept : (x : ℕ) → Outside x (S + 5 * count) 5 → get_or u x 0 ≡ get_or v x 0
          kept x h = g.rest x h

          at : (j : ℕ) → Dec (j ≡ count) → j < count + 1 → SegmentAt u (S + 5 * j)
          at j (yes q) h = subst (λ (x : ℕ). SegmentAt u (S + 5 * x)) (sym q) g.segment
          at j (no d) h =
              let l : j < count = omega arith in
              segment_same v u (S + 5 * j) (λ x a. kept (S + 5 * j + x) (λ y b q. omega arith)) (G.segments j l)

          hit : (p : Uv) → hit_at u (S + 5 * count) tolerance p ≡ edge_hit (pool_at n w) w E face tolerance p i
          hit p =
              g.hits p
              ∙ ap (λ (x : Uv). on_segment tolerance p x (project face (point_at v (entry_at (get_or v (E + 3 * i + 1) 0)))))
              (point (get_or w (E + 3 * i) 0) (get_or v (E + 3 * i) 0) first from_in)
              ∙ ap (λ (x : Uv). on_segment tolerance p (project face (point_of (pool_at n w) (get_or w (E + 3 * i) 0))) x)
              (point (get_or w (E + 3 * i + 1) 0) (get_or v (E + 3 * i + 1) 0) (word 1 (omega arith)) to_in)
              ∙ sym (and_next (has_bit (get_or w (E + 3 * i + 2) 0) face) _ _ (bit b e ∙ t) refl)

  pub gather_end : (v : List ℕ) (count i : ℕ) → Gathering n nf k face tolerance w v count i → k ≤ i → Gathered n nf k face tolerance w v count
  gather_end v count i G h =
      let m = G.most in
      let q : i ≡ k = omega arith in
      record {
        few = let f = G.few in omega arith;
        segments = G.segments;
        skips = λ p. G.skips p ∙ ap (λ (x : ℕ). some (edge_hit (pool_at n w) w E face tolerance p) (up_to x)) q;
        long = G.long;
        rest = G.rest;
      }
