-- What stands in the room stays as it is where nothing below its end changed. Assumes nothing.
--   view_below        a part of the room that ends below the bound
--   pool_kept, pooled_kept               the candidates: they end at pool_end
--   edges_kept, held_kept                k open edges: they end at their place + 3 k
--   supplied_kept     with a list of triangles
--   turned_in_kept, turned_kept           the turned triangles: they end at pair_records_at
--   ready_kept        and with the open edges
use Prim.Native.Nat.{ℕ, ◌+◌, ◌*◌, ◌/◌, ◌≤◌, ◌<◌}
use mathlib.Core.Path.{◌≡◌, sym, ap, ◌∙◌, subst}
use mathlib.Core.List.{List, map}
use native.Mathlib.Omega.{arith}
use lib.ListN.{length, get_or, drop, length-take}
use Rattle.lists.specs.Regions.{view, Above}
use Rattle.geometry.specs.Triangles.{threes}
use Rattle.candidate_pool.specs.Offsets.{entry_at, joined_at, pool_end, open_edges_at}
use Rattle.candidate_pool.specs.Pool.{Pool}
use Rattle.candidate_pool.specs.Standing.{count_at, pool_at, Tidy, edges_at, EdgesHeld}
use Rattle.candidate_pool.proofs.Frames.{view_kept, count_same, stored_kept, pool_agrees}
use Rattle.candidate_pool.proofs.Edges.{edges_same, held_same}
use Rattle.cap_triangles.specs.Selection.{caps_of, outward_caps}
use Rattle.cap_triangles.specs.Listed.{bad_cap_place}
use Rattle.cap_triangles.specs.Room.{turned_at, pair_records_at, Pooled, Supplied, turned_in, TurnedReady, CapReady}

module _ (b : ℕ) (w w' : List ℕ) (above : Above b w w') where
  pub view_below : (o k m : ℕ) → length (view w o k) ≤ m → o + m ≤ b → view w' o k ≡ view w o k
  view_below o k m few end = view_kept w w' o k m above.long few (λ i h. above.below (o + i) (omega arith))

  module _ (n : ℕ) (pooled : Pooled n w) (end : pool_end n ≤ b) where
    words : (x : ℕ) → x < joined_at n → get_or w' x 0 ≡ get_or w x 0
    words x h = above.below x (omega arith)

    pub pool_kept : pool_at n w' ≡ pool_at n w
    pool_kept = pool_agrees n w w' above.long words pooled.few pooled.tidy

    pub pooled_kept : Pooled n w'
    pooled_kept =
        let e = count_same n w w' above.long words in
        let l = pooled.few in
        let z = pooled.size in
        let g = above.long in
        record {
          size = omega arith;
          few = omega arith;
          stored = λ c h. let k : c < count_at w = omega arith in stored_kept n w w' above.long words pooled.few c k (pooled.stored c k);
          masks = λ c h. let m = pooled.masks c (omega arith) in let s = above.below (entry_at c + 4) (omega arith) in omega arith;
          tidy = subst Tidy (sym pool_kept) pooled.tidy;
        }

  module _ (at k : ℕ) (end : at + 3 * k ≤ b) where
    pub edges_kept : edges_at w' at k ≡ edges_at w at k
    edges_kept = edges_same w w' at k (λ x g h. above.below x (omega arith))

    pub held_kept : (p : Pool) → EdgesHeld p w at k → EdgesHeld p w' at k
    held_kept = held_same w w' at k (λ x g h. above.below x (omega arith))

  pub turned_in_kept : (n nf nc : ℕ) → pair_records_at n nf nc ≤ b → turned_in n nf nc w' ≡ turned_in n nf nc w
  turned_in_kept n nf nc end = ap (threes {A = ℕ}) (view_below (turned_at n nf) (3 * nc) (3 * nc) few end)
    where
      few : length (view w (turned_at n nf) (3 * nc)) ≤ 3 * nc
      few = let c = length-take (3 * nc) (drop (turned_at n nf) w) in omega arith

  module _ (n nf : ℕ) (cap_list : List ℕ) where
    pub supplied_kept : pool_end n ≤ b → Supplied n nf cap_list w → Supplied n nf cap_list w'
    supplied_kept end s =
        record {
          pooled = pooled_kept n s.pooled end;
          small = s.small;
          few = s.few;
          fours = s.fours;
          caps = s.caps;
          size = let g = above.long in let z = s.size in omega arith;
        }

    pub turned_kept : pair_records_at n nf (length cap_list / 4) ≤ b → TurnedReady n nf cap_list w → TurnedReady n nf cap_list w'
    turned_kept end r =
        let e : pool_at n w' ≡ pool_at n w = pool_kept n r.supplied.pooled (omega arith) in
        record {
          supplied = supplied_kept (omega arith) r.supplied;
          good = ap (λ (p : Pool). bad_cap_place p (caps_of cap_list)) e ∙ r.good;
          turned = turned_in_kept n nf (length cap_list / 4) end ∙ r.turned ∙ ap (λ (p : Pool). map (λ t. t.corners) (outward_caps p (caps_of cap_list))) (sym e);
        }

    pub ready_kept : (k : ℕ) → pair_records_at n nf (length cap_list / 4) ≤ b → CapReady n nf k cap_list w → CapReady n nf k cap_list w'
    ready_kept k end r =
        let e : pool_at n w' ≡ pool_at n w = pool_kept n r.ready.supplied.pooled (omega arith) in
        let l = r.edges in
        record {
          ready = turned_kept end r.ready;
          held = held_kept (open_edges_at n nf) k (omega arith) (pool_at n w') (subst (λ (p : Pool). EdgesHeld p w (open_edges_at n nf) k) (sym e) r.held);
          edges = r.edges;
        }
