-- The table of words: how it grows, and what its search asks and answers.
use Prim.Native.Nat.{ℕ, ◌+◌, ◌≤◌, ◌<◌}
use native.Mathlib.Omega.{arith}
use mathlib.Core.Path.{◌≡◌, refl, sym, ap, ◌∙◌, subst}
use mathlib.Core.Bool.{Bool}
use mathlib.Core.List.{List}
use lib.Dec.{eqb, eqb→eq}
use lib.ListN.{get_or, length}
use Rattle.lists.specs.Lists.{first, up_to}
use Rattle.lists.specs.Regions.{PartZeroed}
use Rattle.std.specs.Prelude.{Option}
use Rattle.chains.specs.Links.{id_in, link_to}
use Rattle.chains.specs.Chains.{Linked, Filed, linked_in}
use Rattle.chains.specs.Hash.{bucket_of, mixed, InBucket}
use Rattle.chains.specs.ByWord.{word_bucket, WordTable}
use Rattle.chains.proofs.Firsts.{link_to_places, ids_first}
use Rattle.chains.proofs.Entering.{linked_none, linked_more, tail_le, entered_length, entered_rest}
use Rattle.chains.proofs.Walking.{filed_by_key}

-- the test of the search: the word at i is the one sought
abbrev pub sought : List ℕ → ℕ → ℕ → Bool
sought keys key i = eqb key (get_or keys i 0)

pub word_filed : (keys m : List ℕ) (at nb key b : ℕ) → Linked (word_bucket keys nb) m at nb (length keys) → b ≡ bucket_of key 0 0 nb
    → Filed m at nb (length keys) b (sought keys key)
word_filed keys m at nb key b l e =
    filed_by_key (λ x. bucket_of x 0 0 nb) (λ i. get_or keys i 0) m at nb (length keys) key b (sought keys key) l e (λ i h t. sym (eqb→eq key (get_or keys i 0) t))

pub word_answer : (keys : List ℕ) (key : ℕ) (o : Option ℕ) → o ≡ first (sought keys key) (up_to (length keys)) → o ≡ id_in (link_to (eqb key) keys)
word_answer keys key o e = e ∙ sym (ids_first (sought keys key) (length keys)) ∙ ap id_in (link_to_places (eqb key) 0 keys (sought keys key) (λ i h. refl))

module _ (keys : List ℕ) (at nb : ℕ) where
  pub words_start : (u w : List ℕ) → at + nb + nb ≤ length u → PartZeroed u w at (nb + nb) → WordTable keys at nb w w 0
  words_start u w room z = record {
    upto = omega arith;
    long = refl;
    linked = linked_none (word_bucket keys nb) w at nb (let e = z.long in omega arith) z.zero;
    rest = λ x h. refl;
  }

  module _ (u w : List ℕ) (i : ℕ) (room : at + nb + nb + length keys ≤ length u) (f : WordTable keys at nb u w i) (i_in : i < length keys) where
    -- what `enter` asks of the tail
    pub words_tail : (b : ℕ) → b < nb → get_or w (at + nb + b) 0 ≤ i
    words_tail b q = tail_le (word_bucket keys nb) w at nb i b f.linked q

    pub words_turn : (b : ℕ) → InBucket (mixed (get_or keys i 0) 0 0) nb b → WordTable keys at nb u (linked_in w at nb i b) (i + 1)
    words_turn b h = let e = f.long in let q = h.low in record {
      upto = omega arith;
      long = entered_length w at nb i b ∙ f.long;
      linked = linked_more (word_bucket keys nb) w at nb i b h.is h.low (omega arith) f.linked;
      rest = λ x out. entered_rest w at nb i b h.low (words_tail b h.low) x (λ j l d. out j (omega arith) d) ∙ f.rest x out;
    }

  pub words_end : (u w v : List ℕ) (i : ℕ) → length keys ≤ i → PartZeroed u w at (nb + nb) → WordTable keys at nb w v i → WordTable keys at nb u v (length keys)
  words_end u w v i h z f = let g = f.upto in record {
    upto = omega arith;
    long = f.long ∙ z.long;
    linked = let e : i ≡ length keys = omega arith in subst (λ (n : ℕ). Linked (word_bucket keys nb) v at nb n) e f.linked;
    rest = λ x out. f.rest x out ∙ z.rest x (λ j l d. out j (omega arith) d);
  }
