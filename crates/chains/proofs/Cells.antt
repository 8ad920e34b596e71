-- A search of several buckets, one after the other: the first id that passes, or none, of the ids of the first cell, then of the second, and so on, each cell's in order of
-- entry: first t (flat_map f cells). The code searches a cell at a time and answers a link, and its proof goes by hit and miss.
use Prim.Native.Nat.{ℕ, zero, suc}
use mathlib.Core.Path.{◌≡◌, refl, sym, ap, ◌∙◌}
use mathlib.Core.Bool.{Bool, true, false, cond, ◌&&◌}
use mathlib.Core.List.{List, [], ◌∷◌, ◌++◌, flat_map, append-nil}
use Rattle.std.specs.Prelude.{Some}
use Rattle.lists.specs.Lists.{first, keep, up_to}
use Rattle.lists.proofs.First.{first_keep}
use Rattle.lists.proofs.Sequences.{flat_map_append}
use Rattle.chains.specs.Links.{link_of, link_to}
use Rattle.chains.proofs.Firsts.{ids_link}

-- one cell: what a walk answers is the first of the cell's ids that passes
pub cell_link : (c t : ℕ → Bool) (n : ℕ) → link_to (λ k. c k && t k) (up_to n) ≡ link_of (first t (keep c (up_to n)))
cell_link c t n = ids_link (λ k. c k && t k) n ∙ ap link_of (sym (first_keep t c (up_to n)))

-- the first of two links that is one
abbrev or_link : ℕ → ℕ → ℕ
or_link zero v = v
or_link (suc k) v = suc k

hit : (r v : ℕ) → (r ≡ 0 → ⊥) → r ≡ or_link r v
hit zero v h = absurd (h refl)
hit (suc k) v h = refl

module _ (t : ℕ → Bool) where
  link_append : (l r : List ℕ) → link_of (first t (l ++ r)) ≡ or_link (link_of (first t l)) (link_of (first t r))
  link_append [] r = refl
  link_append (x ∷ l) r = go (t x) (link_append l r)
    where
      go : (b : Bool) → link_of (first t (l ++ r)) ≡ or_link (link_of (first t l)) (link_of (first t r))
          → link_of (cond b (Some x) (first t (l ++ r))) ≡ or_link (link_of (cond b (Some x) (first t l))) (link_of (first t r))
      go true e = refl
      go false e = e

  module _ {C : Type 0} (f : C → List ℕ) where
    -- the link that a search of these cells answers
    abbrev pub searched : List C → ℕ
    searched cs = link_of (first t (flat_map f cs))

    cells_append : (cs ds : List C) → searched (cs ++ ds) ≡ or_link (searched cs) (searched ds)
    cells_append cs ds = ap (λ (l : List ℕ). link_of (first t l)) (flat_map_append f cs ds) ∙ link_append (flat_map f cs) (flat_map f ds)

    -- found in the first cells: that is the answer; nothing there: the answer is that of the others
    pub cells_hit : (cs ds : List C) (r : ℕ) → r ≡ searched cs → (r ≡ 0 → ⊥) → r ≡ searched (cs ++ ds)
    cells_hit cs ds r e h = hit r (searched ds) h ∙ ap (λ (v : ℕ). or_link v (searched ds)) e ∙ sym (cells_append cs ds)

    pub cells_miss : (cs ds : List C) (r u : ℕ) → u ≡ searched cs → u ≡ 0 → r ≡ searched ds → r ≡ searched (cs ++ ds)
    cells_miss cs ds r u e z h = h ∙ ap (λ (v : ℕ). or_link v (searched ds)) (sym z ∙ e) ∙ sym (cells_append cs ds)

    -- a cell by itself
    pub cells_one : (c : C) (r : ℕ) → r ≡ link_of (first t (f c)) → r ≡ searched (c ∷ [])
    unfolding flat_map
    cells_one c r e = e ∙ ap (λ (l : List ℕ). link_of (first t l)) (sym (append-nil (f c)))
