-- Rooms that agree where something stands, and pools that grow: what stood there still stands. Assumes nothing.
--   put_at                  a lent part that came back          table_put  the table of open edges in such a part
--   table_kept              the table of open edges
--   all_grown               insertions take nothing out of a face's list
use Prim.Native.Nat.{ℕ, ◌+◌, ◌*◌, ◌-◌, ◌/◌, ◌%◌, ◌≤◌, ◌<◌}
use native.Mathlib.Omega.{arith}
use mathlib.Core.Bool.{true}
use mathlib.Core.Path.{◌≡◌, sym, ap, subst, ◌∙◌}
use mathlib.Core.List.{List, [], ◌∷◌, ◌++◌, foldl}
use borrow.Rule.Slice.PartMut.{put_mid, mid_len}
use lib.ListN.{length, get_or, take, drop, get_or-append}
use lib.Seq.{get_or-append-add, length-take-le}
use Rattle.lists.specs.Lists.{has}
use Rattle.geometry.specs.declared.point.Point.{Point}
use Rattle.geometry.specs.Triangles.{threes}
use Rattle.edges.specs.Edges.{sides, open_edges}
use Rattle.edges.specs.Table.{OpenEdges}
use Rattle.mesh_weld.specs.Joining.{Joining}
use Rattle.candidate_pool.specs.Offsets.{edge_table_at, room_end}
use Rattle.candidate_pool.specs.Pool.{Candidate, Pool, face_list, insert}
use Rattle.candidate_pool.proofs.Growing.{grows}
use Rattle.candidate_edges.specs.Steps.{TableAt}
use Rattle.candidate_surface.specs.Steps.{Tabled}

-- ---- a lent part

pub put_at : (w ys : List ℕ) (at m j : ℕ) → at ≤ length w → j < length ys → get_or (put_mid at m w ys) (at + j) 0 ≡ get_or ys j 0
put_at w ys at m j h k =
    let l = length-take-le at w h in
    ap (λ (x : ℕ). get_or (put_mid at m w ys) (x + j) 0) (sym l) ∙ get_or-append-add (take at w) (ys ++ drop m (drop at w)) j 0 ∙ get_or-append ys (drop m (drop at w)) 0 j k

module _ (fs w ys : List ℕ) (n m k : ℕ) (whole : length fs % 3 ≡ 0) (size : room_end n (length fs / 3) ≤ length w) (long : length ys ≡ 12 * (length fs / 3))
    (old : List ℕ) (O : OpenEdges fs old ys k) where
  abbrev at : ℕ
  at = edge_table_at n (length fs / 3)

  key_word_lem : (i : ℕ) → i < k → get_or (put_mid at m w ys) (at + 2 * i) 0 ≡ get_or ys (2 * i) 0
  key_word_lem i h = put_at w ys at m (2 * i) (omega arith) (let a = O.within in omega arith)

  number_word : (i : ℕ) → i < k → get_or (put_mid at m w ys) (at + 2 * i + 1) 0 ≡ get_or ys (2 * i + 1) 0
  number_word i h =
      let e : at + 2 * i + 1 ≡ at + (2 * i + 1) = omega arith in
      ap (λ (x : ℕ). get_or (put_mid at m w ys) x 0) e ∙ put_at w ys at m (2 * i + 1) (omega arith) (let a = O.within in omega arith)

  table_of : Tabled fs n k (put_mid at m w ys)
  table_of =
      record {
        table = record {
          count = O.count;
          within = O.within;
          number = λ i h. subst (λ (x : ℕ). x < length fs) (sym (number_word i h)) (O.number i h);
          side = λ i h. subst (λ (x : ℕ). get_or (sides (threes fs)) x (0, 0) ≡ get_or (open_edges (threes fs)) i (0, 0)) (sym (number_word i h)) (O.side i h);
        };
        key = λ i h. key_word_lem i h ∙ O.key i h;
      }

-- the part is lent from a place that is at, and is 12 words a facet long
pub table_put : (fs w ys : List ℕ) (n k at : ℕ) → at ≡ edge_table_at n (length fs / 3) → length fs % 3 ≡ 0 → room_end n (length fs / 3) ≤ length w
    → OpenEdges fs (take (at + 12 * (length fs / 3) - at) (drop at w)) ys k → Tabled fs n k (put_mid at (at + 12 * (length fs / 3) - at) w ys)
table_put fs w ys n k at e whole size O =
    let m = at + 12 * (length fs / 3) - at in
    let l = mid_len at (at + 12 * (length fs / 3)) w (omega (arith, e, size)) in
    subst (λ (x : ℕ). Tabled fs n k (put_mid x m w ys)) (sym e)
    (table_of fs w ys n m k whole size (O.same ∙ l ∙ omega arith) (take m (drop at w)) O)

pub table_kept : (fs w w' : List ℕ) (at k : ℕ) → ((x : ℕ) → at ≤ x → get_or w' x 0 ≡ get_or w x 0) → TableAt fs w at k → TableAt fs w' at k
table_kept fs w w' at k same B =
    record {
      count = B.count;
      within = B.within;
      number = λ i h. subst (λ (x : ℕ). x < length fs) (sym (same (at + 2 * i + 1) (omega arith))) (B.number i h);
      side = λ i h. subst (λ (x : ℕ). get_or (sides (threes fs)) x (0, 0) ≡ get_or (open_edges (threes fs)) i (0, 0)) (sym (same (at + 2 * i + 1) (omega arith))) (B.side i h);
    }

-- ---- an insertion

module _ (rule : Joining Point) where
  pub all_grown : (es : List Candidate) (p : Pool) (f c : ℕ) → f < 6 → has (face_list p f) c ≡ true → has (face_list (foldl (insert rule) p es) f) c ≡ true
  all_grown [] p f c l h = h
  all_grown (e ∷ es) p f c l h = all_grown es (insert rule p e) f c l (grows rule p e f c l h)
