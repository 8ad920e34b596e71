-- Laws of the search by key. Assumes nothing.
--   key_is         the test of the search: candidate i has the key
--   key_words_are a key by its three words
--   words_same    keys that pass the test are equal
--   key_filed     a candidate with the key is filed under the key's bucket
use Prim.Native.Nat.{ℕ, ◌+◌, ◌*◌}
use mathlib.Core.Path.{◌≡◌, sym, ap, ◌∙◌}
use mathlib.Core.Bool.{Bool, true, ◌&&◌}
use mathlib.Core.List.{List}
use lib.Dec.{eqb}
use borrow.Author.Tests.{eqb-true}
use Rattle.lists.proofs.Bools.{and_left, and_right, is_true}
use Rattle.chains.specs.Chains.{Filed}
use Rattle.chains.proofs.Walking.{filed_by_key}
use Rattle.candidate_pool.specs.Offsets.{keys_at, chain_at}
use Rattle.mesh_weld.specs.declared.cells.Cell.{Cell}
use Rattle.mesh_weld.specs.Room.{cell_at, same_cell}
use Rattle.candidate_pool.specs.Room.{key_bucket, KeyTable}

abbrev pub key_is : List ℕ → ℕ → Cell → ℕ → Bool
key_is w n key i = same_cell (cell_at w (keys_at n + 3 * i)) key

pub key_words_are : {a b c x y z : ℕ} → a ≡ x → b ≡ y → c ≡ z → ◌≡◌ {A = Cell} (record { x = a; y = b; z = c }) (record { x = x; y = y; z = z })
key_words_are e f g = λ i. record { x = e i; y = f i; z = g i }

-- a test that holds

pub words_same : (a b : Cell) → same_cell a b ≡ true → a ≡ b
words_same a b t =
    let x = eqb-true a.x b.x (and_left (eqb a.x b.x) (eqb a.y b.y && eqb a.z b.z) t) in
    let r = and_right (eqb a.x b.x) (eqb a.y b.y && eqb a.z b.z) t in
    let y = eqb-true a.y b.y (and_left (eqb a.y b.y) (eqb a.z b.z) r) in
    let z = eqb-true a.z b.z (and_right (eqb a.y b.y) (eqb a.z b.z) r) in
    λ i. record { x = x i; y = y i; z = z i }

pub key_filed : (w : List ℕ) (n count : ℕ) (key : Cell) (b : ℕ) → KeyTable w n count → b ≡ key_bucket n key → Filed w (chain_at n) n count b (key_is w n key)
key_filed w n count key b k e =
    filed_by_key (key_bucket n) (λ i. cell_at w (keys_at n + 3 * i)) w (chain_at n) n count key b (key_is w n key) k.linked e
    (λ i h t. words_same (cell_at w (keys_at n + 3 * i)) key (is_true (key_is w n key i) t))

-- by where the keys stand
pub key_told : (w : List ℕ) (n : ℕ) (key : Cell) (i at : ℕ) (r : Bool) → at ≡ keys_at n → r ≡ same_cell (cell_at w (at + 3 * i)) key → key_is w n key i ≡ r
key_told w n key i at r e h = ap (λ (k : ℕ). same_cell (cell_at w (k + 3 * i)) key) (sym e) ∙ sym h
