-- What stays of a room of which only a part was written. Assumes nothing.
--   kept_same, kept_wider, kept_then, kept_set, kept_put   no store, a wider part, one after the other, one store, one record
--   kept_sorted                                             a lent part was sorted
--   records_kept, records_above, view_above                 records and parts that lie outside
use Prim.Native.Nat.{ℕ, ◌+◌, ◌*◌, ◌-◌, ◌≤◌, ◌<◌}
use mathlib.Core.List.{List}
use mathlib.Core.Path.{◌≡◌, refl, sym, ap, ◌∙◌}
use native.Mathlib.Omega.{arith}
use lib.ListN.{length, get_or, set, length-set}
use lib.Seq.{get_or-take, get_or-drop, get_or-set_other}
use Rattle.lists.specs.Regions.{view}
use Rattle.lists.proofs.Regions.{view_same}
use Rattle.records.specs.Buffer.{put_record, records_at}
use Rattle.records.proofs.Records.{records_at_same, put_length, put_other}
use Rattle.sorting.proofs.Sorting.{SortedPart}
use Rattle.candidate_constraints.specs.Steps.{Kept}

pub kept_same : (lo hi : ℕ) (w : List ℕ) → Kept lo hi w w
kept_same lo hi w = record { long = refl; low = λ x h. refl; high = λ x h. refl }

pub kept_wider : (lo hi lo' hi' : ℕ) (w w' : List ℕ) → Kept lo hi w w' → lo' ≤ lo → hi ≤ hi' → Kept lo' hi' w w'
kept_wider lo hi lo' hi' w w' k a b =
    record { long = k.long; low = λ x h. k.low x (omega arith); high = λ x h. k.high x (omega arith) }

pub kept_then : (lo hi : ℕ) (w w' w'' : List ℕ) → Kept lo hi w w' → Kept lo hi w' w'' → Kept lo hi w w''
kept_then lo hi w w' w'' k l =
    record { long = l.long ∙ k.long; low = λ x h. l.low x h ∙ k.low x h; high = λ x h. l.high x h ∙ k.high x h }

pub kept_set : (lo hi at v : ℕ) (w : List ℕ) → lo ≤ at → at < hi → Kept lo hi w (set w at v)
kept_set lo hi at v w a b =
    record {
      long = length-set w at v;
      low = λ x h. get_or-set_other w at x v 0 (λ e. omega arith);
      high = λ x h. get_or-set_other w at x v 0 (λ e. omega arith);
    }

pub kept_put : (lo hi at : ℕ) (r : ℕ × ℕ) (w : List ℕ) → lo ≤ at → at + 1 < hi → Kept lo hi w (put_record w at r)
kept_put lo hi at r w a b =
    record {
      long = put_length w at r;
      low = λ x h. put_other w at r x (λ e. omega arith) (λ e. omega arith);
      high = λ x h. put_other w at r x (λ e. omega arith) (λ e. omega arith);
    }

pub kept_sorted : (a n : ℕ) (w w' : List ℕ) → SortedPart w w' a n → Kept a (a + 4 * n) w w'
kept_sorted a n w w' s =
    record {
      long = s.same;
      low = λ x h. sym (get_or-take a w' x 0 h) ∙ ap (λ (l : List ℕ). get_or l x 0) s.before ∙ get_or-take a w x 0 h;
      high = λ x h.
          ap (λ (y : ℕ). get_or w' y 0) (there (a + 4 * n) x h) ∙ sym (get_or-drop (a + 4 * n) w' (x - (a + 4 * n)) 0)
          ∙ ap (λ (l : List ℕ). get_or l (x - (a + 4 * n)) 0) s.beyond ∙ get_or-drop (a + 4 * n) w (x - (a + 4 * n)) 0
          ∙ ap (λ (y : ℕ). get_or w y 0) (sym (there (a + 4 * n) x h));
    }
  where
    there : (a x : ℕ) → a ≤ x → x ≡ a + (x - a)
    there a x h = omega arith

pub records_kept : (lo hi at n : ℕ) (w w' : List ℕ) → Kept lo hi w w' → at + 2 * n ≤ lo → records_at w' at n ≡ records_at w at n
records_kept lo hi at n w w' k h = records_at_same w w' at n (λ i g. k.low (at + i) (omega arith))

pub records_above : (lo hi at n : ℕ) (w w' : List ℕ) → Kept lo hi w w' → hi ≤ at → records_at w' at n ≡ records_at w at n
records_above lo hi at n w w' k h = records_at_same w w' at n (λ i g. k.high (at + i) (omega arith))

pub view_above : (lo hi at n : ℕ) (w w' : List ℕ) → Kept lo hi w w' → hi ≤ at → at + n ≤ length w → view w' at n ≡ view w at n
view_above lo hi at n w w' k h r = view_same w w' at n r k.long (λ i g. k.high (at + i) (omega arith))
