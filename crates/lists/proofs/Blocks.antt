-- Laws of a loop that stores one list after the other, for 0, 1, .. m - 1, in a part of an output, whatever the output holds. Assumes nothing.
--   BlocksStored   the lists before i are stored, and the next goes to o
--   blocks_start, blocks_turn, blocks_end, blocks_place   before the loop, one turn, behind the loop: what was stored, and where the next would go
--   blocks_long, blocks_room                              the output's length, and room for the next
use Prim.Native.Nat.{ℕ, ◌+◌, ◌≤◌, ◌<◌}
use native.Mathlib.Omega.{arith}
use mathlib.Core.Path.{◌≡◌, refl, sym, ap, ◌∙◌}
use mathlib.Core.List.{List, flat_map}
use lib.ListN.{length, length-append}
use lib.Seq.{sets, length-sets}
use Rattle.lists.specs.Lists.{up_from, up_to}
use Rattle.lists.proofs.Stores.{sets_append}
use Rattle.lists.proofs.Sequences.{flat_up, flat_longer}

module _ {B : Type 0} (block : ℕ → List B) where
  pub record BlocksStored (old out : List B) (at i o : ℕ) : Type 0 where
    pub place : o ≡ at + length (flat_map block (up_to i))
    pub stored : out ≡ sets old at (flat_map block (up_to i))

  pub blocks_start : (old : List B) (at o : ℕ) → o ≡ at → BlocksStored old old at 0 o
  unfolding up_from flat_map
  blocks_start old at o e = record { place = omega arith; stored = refl }

  module _ (old out : List B) (at i o : ℕ) (R : BlocksStored old out at i o) where
    pub blocks_long : length out ≡ length old
    blocks_long = ap length R.stored ∙ length-sets old at (flat_map block (up_to i))

    pub blocks_room : (m : ℕ) → i < m → at + length (flat_map block (up_to m)) ≤ length old → o + length (block i) ≤ length out
    blocks_room m h r =
        let a = flat_longer block (i + 1) m (omega arith) in
        let b = ap length (flat_up block i) ∙ length-append (flat_map block (up_to i)) (block i) in
        let c = blocks_long in
        let d = R.place in
        omega arith

    pub blocks_turn : (out' : List B) (o' : ℕ) → out' ≡ sets out o (block i) → o' ≡ o + length (block i) → BlocksStored old out' at (i + 1) o'
    blocks_turn out' o' e f =
        let b = ap length (flat_up block i) ∙ length-append (flat_map block (up_to i)) (block i) in
        let d = R.place in
        record {
          place = omega arith;
          stored =
              e ∙ (λ t. sets (R.stored t) (R.place t) (block i)) ∙ sym (sets_append old at (flat_map block (up_to i)) (block i))
              ∙ ap (sets old at) (sym (flat_up block i));
        }

    pub blocks_end : (m : ℕ) → i ≤ m → m ≤ i → (new : List B) → flat_map block (up_to m) ≡ new → out ≡ sets old at new
    blocks_end m h k new e =
        let q : i ≡ m = omega arith in
        R.stored ∙ ap (λ (x : ℕ). sets old at (flat_map block (up_to x))) q ∙ ap (sets old at) e

    pub blocks_place : (m : ℕ) → i ≤ m → m ≤ i → (new : List B) → flat_map block (up_to m) ≡ new → o ≡ at + length new
    blocks_place m h k new e =
        let q : i ≡ m = omega arith in
        R.place ∙ ap (λ (x : ℕ). at + length (flat_map block (up_to x))) q ∙ ap (λ (l : List B). at + length l) e
