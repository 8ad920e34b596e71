-- Chains: a table of ids 0, 1, 2, .. by buckets, in one buffer from `at` on: nb heads, nb tails, and a next for each id. Assumes nothing.
-- A head is the link to a bucket's first id, a tail to its last, a next to the id entered after this one with the same bucket; 0 is none, so that cleared memory is the
-- table of no id.
--   Linked h m at nb n   the buffer m holds the table of the ids below n, each entered with the bucket h id
--   linked_in              the buffer after id n was entered with the bucket b
--   Filed                a table of n ids in which each id that passes a test was entered with the bucket b: what a search by bucket b asks
use Rattle.std.specs.Prelude.{ℕ, suc, ◌+◌, ◌-◌, ◌≤◌, ◌<◌, ◌≡◌, Bool, cond, List, T, eqb, get_or, set, length}
use Rattle.chains.specs.Links.{First, Last}

pub record Linked (h : ℕ → ℕ) (m : List ℕ) (at nb n : ℕ) : Type 0 where
  pub room : at + nb + nb + n ≤ length m
  pub heads : (b : ℕ) → b < nb → First (λ k. h k ≡ b) 0 n (get_or m (at + b) 0)
  pub tails : (b : ℕ) → b < nb → Last (λ k. h k ≡ b) n (get_or m (at + nb + b) 0)
  pub nexts : (i : ℕ) → i < n → First (λ k. h k ≡ h i) (suc i) n (get_or m (at + nb + nb + i) 0)

-- where the link to a new id of the bucket b goes, whose tail is t: to the head of an empty bucket, else to the next of its last id
abbrev pub link_place : ℕ → ℕ → ℕ → ℕ → ℕ
link_place at nb b t = cond (eqb t 0) (at + b) (at + nb + nb + (t - 1))

abbrev pub linked_in : List ℕ → ℕ → ℕ → ℕ → ℕ → List ℕ
linked_in m at nb id b =
    set (set (set m (link_place at nb b (get_or m (at + nb + b) 0)) (id + 1)) (at + nb + b) (id + 1)) (at + nb + nb + id) 0

pub record Filed (m : List ℕ) (at nb n b : ℕ) (t : ℕ → Bool) : Type 0 where
  pub h : ℕ → ℕ
  pub linked : Linked h m at nb n
  pub there : (i : ℕ) → i < n → T (t i) → h i ≡ b
