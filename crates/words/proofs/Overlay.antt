-- Laws of `overlay`, and of a loop that writes a list to the front of another, an element a turn. Assumes nothing.
--   length_overlay, take_overlay, drop_overlay   its length, and its two parts
--   overlay_nil, overlay_whole                   nothing written; all written over
--   sets_overlay                                 stores one after the other from 0 on make it
--   overlay_zeros                                clearing the used front of a list that is zero beyond clears all of it
--   take_zeros, drop_zeros                       parts of a list of zeros
--   cleared_front, cleared_part, part_zeroed     a lent part that came back cleared
--   Writing                                      the loop: the first i elements of `new` are written; start, turn (turn_at: by a place that is i), end
use Prim.Native.Nat.{ℕ, zero, suc, ◌+◌, ◌-◌, ◌≤◌, ◌<◌, zero-le}
use mathlib.Core.List.{List, [], ◌∷◌, ◌++◌, append-nil}
use mathlib.Core.Path.{◌≡◌, refl, sym, ap, subst, ◌∙◌}
use native.Mathlib.Nat.{not-suc-le-zero, le_of_suc-le-suc}
use native.Mathlib.Numerals.{add-one}
use native.Mathlib.Omega.{arith}
use borrow.Rule.Slice.PartMut.{put_mid, mid_len, Post-is}
use lib.ListN.{length, take, drop, set, get_or, replicate, length-append, length-drop, length-set, length-replicate, get_or-replicate, drop_of_length-le, replicate-append-replicate, get_or-append}
use Rattle.std.proofs.lemmas.List.{get_or-append-add, get_or-append_right}
use Rattle.lists.specs.Regions.{Outside, PartZeroed}
use mathlib.Core.Logic.{◌⊎◌, inl, inr, ⊎_elim}
use Rattle.words.proofs.Packed.{less_equal_more}
use lib.Seq.{get_or-take, get_or-drop, length-take-le, take-append_seam, drop-append_seam, drop_at, take_all, sets, sets-eq}
use Rattle.words.specs.Overlay.{overlay}

module _ {A : Type 0} where
  pub length_overlay : (new old : List A) → length new ≤ length old → length (overlay new old) ≡ length old
  length_overlay new old h = simp (length-append, length-drop) (omega arith)

  pub take_overlay : (new old : List A) → take (length new) (overlay new old) ≡ new
  take_overlay new old = take-append_seam new (drop (length new) old)

  pub drop_overlay : (new old : List A) → drop (length new) (overlay new old) ≡ drop (length new) old
  drop_overlay new old = drop-append_seam new (drop (length new) old)

  pub overlay_nil : (old : List A) → overlay [] old ≡ old
  overlay_nil old = refl

  pub overlay_whole : (new old : List A) → length old ≤ length new → overlay new old ≡ new
  overlay_whole new old h = ap (λ (l : List A). new ++ l) (drop_of_length-le old {i = length new} h) ∙ append-nil new

  pub sets_overlay : (new old : List A) → length new ≤ length old → sets old 0 new ≡ overlay new old
  sets_overlay new old h =
      let e : 0 + length new ≡ length new = omega arith in
      sets-eq new old 0 (omega arith) ∙ ap (λ (k : ℕ). new ++ drop k old) e

  -- ---- a loop that writes `new` to the front of `old`
  pub record Writing (new old v : List A) (i : ℕ) : Type 0 where
    pub within : i ≤ length new
    pub room : length new ≤ length old
    pub same : length v ≡ length old
    pub front : v ≡ take i new ++ drop i old

  pub writing_start : (new old : List A) → length new ≤ length old → Writing new old old 0
  writing_start new old h = record { within = zero-le; room = h; same = refl; front = refl }

  written : (i : ℕ) (new old : List A) (d : A) → i < length new → length new ≤ length old
      → set (take i new ++ drop i old) i (get_or new i d) ≡ take (suc i) new ++ drop (suc i) old
  written i [] old d h k = absurd (not-suc-le-zero h)
  written i (x ∷ new) [] d h k = absurd (not-suc-le-zero k)
  written zero (x ∷ new) (y ∷ old) d h k = refl
  written (suc i) (x ∷ new) (y ∷ old) d h k =
      ap (λ (l : List A). x ∷ l) (written i new old d (le_of_suc-le-suc h) (le_of_suc-le-suc k))

  pub writing_turn : (new old v : List A) (i : ℕ) (d x : A) → Writing new old v i → i < length new → x ≡ get_or new i d → Writing new old (set v i x) (i + 1)
  writing_turn new old v i d x w h e =
      record {
        within = omega arith;
        room = w.room;
        same = length-set v i x ∙ w.same;
        front = rw (add-one, e) (ap (λ (l : List A). set l i (get_or new i d)) w.front ∙ written i new old d h w.room);
      }

  pub writing_turn_at : (new old v : List A) (i at : ℕ) (d x : A) → Writing new old v i → i < length new → at ≡ i → x ≡ get_or new at d → Writing new old (set v at x) (i + 1)
  writing_turn_at new old v i at d x w h e q =
      subst (λ (k : ℕ). Writing new old (set v k x) (i + 1)) (sym e) (writing_turn new old v i d x w h (q ∙ ap (λ (k : ℕ). get_or new k d) e))

  pub writing_end : (new old v : List A) (i : ℕ) → Writing new old v i → length new ≤ i → v ≡ overlay new old
  writing_end new old v i w h =
      let e : i ≡ length new = omega arith in
      w.front ∙ ap (λ (l : List A). l ++ drop i old) (take_all i new h) ∙ ap (λ (k : ℕ). new ++ drop k old) e

-- ---- zeros
module _ (n : ℕ) (w v : List ℕ) (i : ℕ) (k : Writing (replicate n 0) w v i) where
  pub zero_turn : i < n → Writing (replicate n 0) w (set v i 0) (i + 1)
  zero_turn h = writing_turn (replicate n 0) w v i 0 0 k (rw (length-replicate {A = ℕ} n 0) h) (sym (get_or-replicate n i 0 0 h))

  pub zero_end : n ≤ i → v ≡ overlay (replicate n 0) w
  zero_end h = writing_end (replicate n 0) w v i k (rw (length-replicate {A = ℕ} n 0) h)

pub take_zeros : (n m : ℕ) → n ≤ m → take n (replicate m 0) ≡ replicate {A = ℕ} n 0
take_zeros zero m h = refl
take_zeros (suc n) zero h = absurd (not-suc-le-zero h)
take_zeros (suc n) (suc m) h = ap (λ (l : List ℕ). 0 ∷ l) (take_zeros n m (le_of_suc-le-suc h))

pub drop_zeros : (n m k : ℕ) → m ≡ n + k → drop n (replicate m 0) ≡ replicate {A = ℕ} k 0
drop_zeros n m k e =
    ap (λ (j : ℕ). drop n (replicate j 0)) e ∙ ap (drop n) (sym (replicate-append-replicate n k 0))
    ∙ drop_at (replicate n 0) (replicate k 0) n (length-replicate {A = ℕ} n 0)

pub overlay_zeros : (n m : ℕ) (w : List ℕ) → length w ≡ n + m → drop n w ≡ replicate m 0 → overlay (replicate n 0) w ≡ replicate (n + m) 0
overlay_zeros n m w h e =
    rw (length-replicate {A = ℕ} n 0) (ap (λ (l : List ℕ). replicate n 0 ++ l) e ∙ replicate-append-replicate n m 0)

-- ---- a lent part that came back cleared: the front `&mut w[..n]`, and a part `&mut w[a..e]`
pub cleared_front : (w z : List ℕ) (n : ℕ) → n ≤ length w → z ≡ replicate (length (take n w)) 0 → z ++ drop n w ≡ overlay (replicate n 0) w
cleared_front w z n h e =
    ap (λ (l : List ℕ). l ++ drop n w) (e ∙ ap (λ (k : ℕ). replicate k 0) (length-take-le n w h))
    ∙ ap (λ (k : ℕ). replicate n 0 ++ drop k w) (sym (length-replicate {A = ℕ} n 0))

pub cleared_part : (w z : List ℕ) (a e : ℕ) → a ≤ e → e ≤ length w → z ≡ replicate (length (take (e - a) (drop a w))) 0
    → put_mid a (e - a) w z ≡ take a w ++ (replicate (e - a) 0 ++ drop e w)
cleared_part w z a e h k q =
    ap (λ (l : List ℕ). take a w ++ (l ++ drop (e - a) (drop a w))) (q ∙ ap (λ (n : ℕ). replicate n 0) (mid_len a e w k))
    ∙ ap (λ (l : List ℕ). take a w ++ (replicate (e - a) 0 ++ l)) (Post-is a e w h)

-- a part that came back cleared: what a caller of `zero_part` is told
pub part_zeroed : (w z : List ℕ) (a n : ℕ) → a + n ≤ length w → z ≡ replicate (length (take (a + n - a) (drop a w))) 0 → PartZeroed w (put_mid a (a + n - a) w z) a n
part_zeroed w z a n h q =
    let m : a + n - a ≡ n = omega arith in
    let e = cleared_part w z a (a + n) (omega arith) h q ∙ ap (λ (k : ℕ). take a w ++ (replicate k 0 ++ drop (a + n) w)) m in
    let la = length-take-le a w (omega arith) in
    let lr = length-replicate {A = ℕ} n 0 in
    record {
      long = ap length e ∙ simp (length-append, length-drop, length-replicate) (omega (arith, la));
      zero = λ i k. ap (λ (l : List ℕ). get_or l (a + i) 0) e
          ∙ (let p : a + i ≡ length (take a w) + i = omega (arith, la) in
          ap (λ (x : ℕ). get_or (take a w ++ (replicate n 0 ++ drop (a + n) w)) x 0) p)
          ∙ get_or-append-add (take a w) (replicate n 0 ++ drop (a + n) w) i 0
          ∙ get_or-append (replicate n 0) (drop (a + n) w) 0 i (omega (arith, lr)) ∙ get_or-replicate n i 0 0 k;
      rest = λ x f. ap (λ (l : List ℕ). get_or l x 0) e ∙ ⊎_elim (before x) (λ k. behind x (past x f k)) (lt_or_le x a);
    }
  where
    lt_or_le : (x y : ℕ) → (x < y) ⊎ (y ≤ x)
    lt_or_le x y = ⊎_elim inl (⊎_elim (λ (h : x ≡ y). inr (omega arith)) (λ (h : y < x). inr (omega arith))) (less_equal_more x y)

    before : (x : ℕ) → x < a → get_or (take a w ++ (replicate n 0 ++ drop (a + n) w)) x 0 ≡ get_or w x 0
    before x k =
        get_or-append (take a w) (replicate n 0 ++ drop (a + n) w) 0 x (omega (arith, length-take-le a w (omega arith))) ∙ get_or-take a w x 0 k

    past : (x : ℕ) → Outside x a n → a ≤ x → a + n ≤ x
    past x f k = ⊎_elim (λ (j : x < a + n). absurd (f (x - a) (omega arith) (omega arith))) (λ j. j) (lt_or_le x (a + n))

    behind : (x : ℕ) → a + n ≤ x → get_or (take a w ++ (replicate n 0 ++ drop (a + n) w)) x 0 ≡ get_or w x 0
    behind x k =
        get_or-append_right (take a w) (replicate n 0 ++ drop (a + n) w) a x 0 (length-take-le a w (omega arith)) (omega arith)
        ∙ get_or-append_right (replicate n 0) (drop (a + n) w) n (x - a) 0 (length-replicate {A = ℕ} n 0) (omega arith)
        ∙ get_or-drop (a + n) w (x - a - n) 0 ∙ (let e : a + n + (x - a - n) ≡ x = omega arith in ap (λ (i : ℕ). get_or w i 0) e)
