-- The open edges as they stand in the room. Assumes nothing.
--   edges_none, edges_more   no open edge, one more
--   edges_same               in a room that agrees at their words
--   held_none, held_more, held_fewer   their ends are in the lists of their faces: of no edge, of one more, of fewer
--   held_kept                the same in such a room, and of a pool whose lists have what the first one's had
--   held_same                the same of one pool
use Prim.Native.Nat.{ℕ, ◌+◌, ◌*◌, ◌≤◌, ◌<◌}
use mathlib.Core.Path.{◌≡◌, refl, sym, ap, ◌∙◌, subst}
use mathlib.Core.Bool.{true}
use mathlib.Core.List.{List, [], ◌++◌, map, flat_map}
use native.Mathlib.Omega.{arith}
use native.Mathlib.Decide.{ℕ_discrete}
use lib.ListN.{get_or}
use Rattle.lists.specs.Lists.{has, up_from}
use Rattle.lists.proofs.Sequences.{flat_up, flat_below}
use Rattle.box_faces.specs.Faces.{has_bit}
use Rattle.candidate_pool.specs.OpenEdges.{open_edge}
use Rattle.candidate_pool.specs.Pool.{Pool, face_list}
use Rattle.candidate_pool.specs.Standing.{faces_in, edge_at, edges_at, EdgesHeld}

-- ---- the list of open edges

pub edges_none : (w : List ℕ) (at : ℕ) → edges_at w at 0 ≡ []
unfolding edges_at flat_map up_from
edges_none w at = refl

pub edges_more : (w : List ℕ) (at k : ℕ) → edges_at w at (k + 1) ≡ edges_at w at k ++ edge_at w (at + 3 * k)
unfolding edges_at
edges_more w at k = flat_up (λ i. edge_at w (at + 3 * i)) k

-- ---- in another room

module _ (w w' : List ℕ) (at k : ℕ) (same : (x : ℕ) → at ≤ x → x < at + 3 * k → get_or w' x 0 ≡ get_or w x 0) where
  from_same : (i : ℕ) → i < k → get_or w' (at + 3 * i) 0 ≡ get_or w (at + 3 * i) 0
  from_same i h = same (at + 3 * i) (omega arith) (omega arith)

  to_same : (i : ℕ) → i < k → get_or w' (at + 3 * i + 1) 0 ≡ get_or w (at + 3 * i + 1) 0
  to_same i h = same (at + 3 * i + 1) (omega arith) (omega arith)

  mask_same : (i : ℕ) → i < k → get_or w' (at + 3 * i + 2) 0 ≡ get_or w (at + 3 * i + 2) 0
  mask_same i h = same (at + 3 * i + 2) (omega arith) (omega arith)

  pub edges_same : edges_at w' at k ≡ edges_at w at k
  unfolding edges_at
  edges_same =
      flat_below (λ i. edge_at w' (at + 3 * i)) (λ i. edge_at w (at + 3 * i)) k
      (λ i h t. map (λ f. open_edge f (from_same i h t) (to_same i h t)) (faces_in (mask_same i h t)))

  pub held_kept : (p q : Pool) → ((f c : ℕ) → f < 6 → has (face_list p f) c ≡ true → has (face_list q f) c ≡ true) → EdgesHeld p w at k → EdgesHeld q w' at k
  held_kept p q grow held =
      record {
        masks = λ i h. subst (λ (x : ℕ). x < 64) (sym (mask_same i h)) (held.masks i h);
        from = λ i f h l b.
            ap (has (face_list q f)) (from_same i h) ∙ grow f (get_or w (at + 3 * i) 0) l (held.from i f h l (ap (λ (x : ℕ). has_bit x f) (sym (mask_same i h)) ∙ b));
        to = λ i f h l b.
            ap (has (face_list q f)) (to_same i h) ∙ grow f (get_or w (at + 3 * i + 1) 0) l (held.to i f h l (ap (λ (x : ℕ). has_bit x f) (sym (mask_same i h)) ∙ b));
      }

  pub held_same : (p : Pool) → EdgesHeld p w at k → EdgesHeld p w' at k
  held_same p = held_kept p p (λ f c l e. e)

-- ---- fewer and more

pub held_none : (p : Pool) (w : List ℕ) (at : ℕ) → EdgesHeld p w at 0
held_none p w at =
    record {
      masks = λ i h. absurd (omega arith);
      from = λ i f h. absurd (omega arith);
      to = λ i f h. absurd (omega arith);
    }

pub held_fewer : (p : Pool) (w : List ℕ) (at k m : ℕ) → m ≤ k → EdgesHeld p w at k → EdgesHeld p w at m
held_fewer p w at k m h e =
    record {
      masks = λ i g. e.masks i (omega arith);
      from = λ i f g. e.from i f (omega arith);
      to = λ i f g. e.to i f (omega arith);
    }

module _ (p : Pool) (w : List ℕ) (at k : ℕ) (held : EdgesHeld p w at k) (small : get_or w (at + 3 * k + 2) 0 < 64)
    (first : (f : ℕ) → f < 6 → has_bit (get_or w (at + 3 * k + 2) 0) f ≡ true → has (face_list p f) (get_or w (at + 3 * k) 0) ≡ true)
    (second : (f : ℕ) → f < 6 → has_bit (get_or w (at + 3 * k + 2) 0) f ≡ true → has (face_list p f) (get_or w (at + 3 * k + 1) 0) ≡ true) where
  -- of k + 1 edges each is one of the first k, or the last
  each : (P : ℕ → Type 0) → ((i : ℕ) → i < k → P i) → P k → (i : ℕ) → i < k + 1 → P i
  each P old new i h = go (ℕ_discrete i k)
    where
      go : Dec (i ≡ k) → P i
      go (yes e) = subst P (sym e) new
      go (no n) = old i (omega arith)

  pub held_more : EdgesHeld p w at (k + 1)
  held_more =
      record {
        masks = each (λ i. get_or w (at + 3 * i + 2) 0 < 64) held.masks small;
        from = λ i f h. each (λ i. f < 6 → has_bit (get_or w (at + 3 * i + 2) 0) f ≡ true → has (face_list p f) (get_or w (at + 3 * i) 0) ≡ true) (λ i l. held.from i f l) (first f) i h;
        to =
            λ i f h. each (λ i. f < 6 → has_bit (get_or w (at + 3 * i + 2) 0) f ≡ true → has (face_list p f) (get_or w (at + 3 * i + 1) 0) ≡ true) (λ i l. held.to i f l) (second f) i h;
      }
