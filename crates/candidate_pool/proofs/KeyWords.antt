-- The words of keys tell the keys apart, so the search by words is the definition's search by keys. Assumes nothing.
--   rounded_fits   a key is a number of 64 bits, with sign, whatever the double
--   same_is, same_self   two whole numbers are one exactly if the test says so
--   words_keys     two keys of points have the same words exactly if they are the same
--   link_to_is, found_is       what the search finds is what "One key, one candidate" finds among the points
use Prim.Native.Nat.{ℕ, zero, suc, ◌+◌, ◌*◌, ◌-◌, ◌^◌, ◌≤◌, ◌<◌, min}
use mathlib.Core.Path.{◌≡◌, refl, ap, subst, ◌∙◌, sym}
use mathlib.Core.Bool.{Bool, true, false, not, ◌&&◌, true≢false}
use mathlib.Core.List.{List}
use native.Mathlib.Omega.{arith}
use borrow.Author.Tests.{eqb-true, eq-eqb, ne_eqb}
use lib.Dec.{T, eqb}
use lib.IntN.{ℤ, pos, negsuc, neg_ℤ}
use lib.ListN.{get_or, length}
use lib.Ieee.{Float, nan, inf, fin, up, down}
use mir.Syntax.{w64}
use mir.Val.{SFits}
use Rattle.lists.specs.Lists.{first, up_to}
use Rattle.lists.proofs.Bools.{by_test, is_true}
use Rattle.rounding.specs.Rounding.{half_up, rounded, key, key_word}
use Rattle.rounding.proofs.Keys.{same_word}
use Rattle.geometry.specs.declared.point.Point.{Point}
use Rattle.geometry.specs.Points.{origin}
use Rattle.chains.specs.Links.{link_of, link_to, id_in}
use Rattle.chains.proofs.Firsts.{link_to_places, places_link, ids_first, id_link}
use Rattle.mesh_weld.specs.Cells.{key_of, same, same_key}
use Rattle.candidate_pool.specs.Offsets.{keys_at}
use Rattle.candidate_pool.specs.Pool.{by_key}
use Rattle.mesh_weld.specs.Room.{words_of, cell_at, same_cell}
use Rattle.candidate_pool.proofs.Searching.{key_is}

-- ---- keys fit

least_fits : (n : ℕ) → n ≤ 2 ^ 63 → SFits w64 (neg_ℤ (pos n))
least_fits zero h = record { sfits = omega arith }
least_fits (suc n) h = record { sfits = omega arith }

pub rounded_fits : (x : Float) → SFits w64 (rounded x)
unfolding rounded
rounded_fits nan = record { sfits = omega arith }
rounded_fits (inf true) = record { sfits = omega arith }
rounded_fits (inf false) = record { sfits = omega arith }
rounded_fits (fin true m e) = least_fits (min (2 ^ 63) (half_up (m * up e) (down e))) (low (half_up (m * up e) (down e)))
  where
    low : (n : ℕ) → min (2 ^ 63) n ≤ 2 ^ 63
    low n = omega arith
rounded_fits (fin false m e) = record { sfits = low (half_up (m * up e) (down e)) }
  where
    low : (n : ℕ) → min (2 ^ 63 - 1) n < 2 ^ 63
    low n = omega arith

pub key_fits : (eps x : Float) → SFits w64 (key eps x)
unfolding key
key_fits eps x = rounded_fits _

-- ---- words and keys

pub same_is : (j k : ℤ) → same j k ≡ true → j ≡ k
same_is (pos m) (pos n) e = ap pos (eqb-true m n e)
same_is (pos m) (negsuc n) e = absurd (true≢false (sym e))
same_is (negsuc m) (pos n) e = absurd (true≢false (sym e))
same_is (negsuc m) (negsuc n) e = ap negsuc (eqb-true m n e)

pub same_self : (k : ℤ) → same k k ≡ true
same_self (pos n) = eq-eqb n n refl
same_self (negsuc n) = eq-eqb n n refl

word_same : (j k : ℤ) → SFits w64 j → SFits w64 k → eqb (key_word j) (key_word k) ≡ same j k
word_same j k f g =
    by_test (λ b. eqb (key_word j) (key_word k) ≡ b) (same j k)
    (λ t. eq-eqb (key_word j) (key_word k) (ap key_word (same_is j k (is_true (same j k) t))))
    (λ t. ne_eqb (key_word j) (key_word k)
    (λ e. subst (λ (b : Bool). T (not b)) (ap (λ i. same i k) (same_word j k f g e) ∙ same_self k) t))

pub words_keys : (eps : Float) (p q : Point) → same_cell (words_of (key_of eps p)) (words_of (key_of eps q)) ≡ same_key (key_of eps p) (key_of eps q)
unfolding same_key key_of
words_keys eps p q =
    let x = word_same (key eps p.x) (key eps q.x) (key_fits eps p.x) (key_fits eps q.x) in
    let y = word_same (key eps p.y) (key eps q.y) (key_fits eps p.y) (key_fits eps q.y) in
    let z = word_same (key eps p.z) (key eps q.z) (key_fits eps p.z) (key_fits eps q.z) in
    λ i. x i && (y i && z i)

-- ---- the search

pub link_to_is : (eps : Float) (p : Point) (l : List Point) (w : List ℕ) (n : ℕ) → ((i : ℕ) → i < length l → cell_at w (keys_at n + 3 * i) ≡ words_of (key_of eps (get_or l i origin))) →
    link_to (key_is w n (words_of (key_of eps p))) (up_to (length l)) ≡ link_of ((by_key eps).find p l)
unfolding by_key
link_to_is eps p l w n stands =
    link_to_places (λ q. same_key (key_of eps q) (key_of eps p)) origin l (key_is w n (words_of (key_of eps p)))
    (λ i h. ap (λ k. same_cell k (words_of (key_of eps p))) (stands i h) ∙ words_keys eps (get_or l i origin) p)
    ∙ places_link (λ q. same_key (key_of eps q) (key_of eps p)) origin l

pub found_is : (eps : Float) (p : Point) (l : List Point) (w : List ℕ) (n : ℕ) → ((i : ℕ) → i < length l → cell_at w (keys_at n + 3 * i) ≡ words_of (key_of eps (get_or l i origin))) →
    first (key_is w n (words_of (key_of eps p))) (up_to (length l)) ≡ (by_key eps).find p l
unfolding by_key
found_is eps p l w n stands =
    sym (ids_first (key_is w n (words_of (key_of eps p))) (length l))
    ∙ ap id_in (link_to_places (λ q. same_key (key_of eps q) (key_of eps p)) origin l (key_is w n (words_of (key_of eps p)))
    (λ i h. ap (λ k. same_cell k (words_of (key_of eps p))) (stands i h) ∙ words_keys eps (get_or l i origin) p)
    ∙ places_link (λ q. same_key (key_of eps q) (key_of eps p)) origin l)
    ∙ id_link (first (λ k. same_key (key_of eps (get_or l k origin)) (key_of eps p)) (up_to (length l)))
