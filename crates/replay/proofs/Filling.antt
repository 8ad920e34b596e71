-- Laws of lists that are filled with f of each place. Assumes nothing.
--   next_double   the double of the next place
--   table_is      a list that is f of each place
--   counted, doubles_read, numbers_read   what `old_numbers` and `read` leave
use Prim.Native.Nat.{ℕ, ◌+◌, ◌-◌, ◌%◌, ◌≤◌, ◌<◌}
use mathlib.Core.Path.{◌≡◌, sym, ap, ◌∙◌}
use mathlib.Core.List.{List}
use native.Mathlib.Omega.{arith}
use native.Mathlib.Numerals.{add-one}
use lib.ListN.{length, get_or, take, drop, length-map}
use lib.Seq.{ext_get_or}
use lib.Ieee.{Float, nan}
use Rattle.lists.specs.Lists.{up_to}
use Rattle.lists.proofs.Places.{length_up, at_map_up}
use Rattle.lists.proofs.Regions.{view_length, view_at}
use Rattle.root.specs.Doubles.{◌⊕◌, one_f}
use Rattle.replay.specs.Contents.{table, double_of, doubles_in, numbers_in, old_double, old_words}

pub next_double : (x : Float) (i : ℕ) → x ≡ old_double i → x ⊕ one_f ≡ old_double (i + 1)
next_double x i e = ap (λ (z : Float). z ⊕ one_f) e ∙ sym (ap old_double (add-one i))

-- a list that is f of each place
pub table_is : {A : Type 0} (f : ℕ → A) (l : List A) (d : A) (n : ℕ) → length l ≡ n → ((k : ℕ) → k < n → get_or l k d ≡ f k) → l ≡ table f n
table_is f l d n long each =
    ext_get_or d l (table f n) (long ∙ sym (length-map (up_to n) f ∙ length_up 0 n))
    (λ k h. let m : k < n = omega arith in each k m ∙ sym (at_map_up f d 0 n k m ∙ ap f (omega arith)))

-- what `old_numbers` leaves
pub counted : (l : List ℕ) (n : ℕ) → length l ≡ n → ((k x : ℕ) → k < length l → get_or l k x ≡ 3000000000 + k) → l ≡ old_words n
counted l n long each = table_is (λ k. 3000000000 + k) l 0 n long (λ k h. each k 0 (omega arith))

-- what `read` leaves, of words that are lent from `from` to `to`
module _ (stored : List ℕ) (from to n : ℕ) (e : to - from ≡ n) (fits : from + n ≤ length stored) where
  abbrev lent : List ℕ
  lent = take (to - from) (drop from stored)

  lent_length : length lent ≡ n
  lent_length = view_length stored from (to - from) (omega arith) ∙ e

  at_lent : (k : ℕ) → k < n → get_or lent k 0 ≡ get_or stored (from + k) 0
  at_lent k h = view_at stored from (to - from) k (omega arith)

  pub doubles_read : (l : List Float) → length l ≡ length lent → ((k : ℕ) (x : Float) → k < length l → get_or l k x ≡ double_of (get_or lent k 0)) → l ≡ doubles_in stored from n
  doubles_read l long each =
      table_is (λ k. double_of (get_or stored (from + k) 0)) l nan n (long ∙ lent_length) (λ k h. each k nan (omega (arith, lent_length)) ∙ ap double_of (at_lent k h))

  pub numbers_read : (l : List ℕ) → length l ≡ length lent → ((k x : ℕ) → k < length l → get_or l k x ≡ get_or lent k 0 % 4294967296) → l ≡ numbers_in stored from n
  numbers_read l long each =
      table_is (λ k. get_or stored (from + k) 0 % 4294967296) l 0 n (long ∙ lent_length)
      (λ k h. each k 0 (omega (arith, lent_length)) ∙ ap (λ (x : ℕ). x % 4294967296) (at_lent k h))
