-- The walk of one bucket's chain in search of the first id that passes a test: what a caller's loop over `first` and `next` keeps.
-- A loop `here = first(..); while let Some(i) = here { if test(i) { return Some(i); } here = next(.., i); } None` has the invariant `Walk .. here` and the measure `left n here`;
-- walk_start is its beginning, walk_turn and walk_less a turn, walk_found and walk_end what it answers, walk_low and walk_room its indices.
use Prim.Native.Nat.{ℕ, zero, suc, ◌+◌, ◌-◌, ◌≤◌, ◌<◌}
use native.Mathlib.Omega.{arith}
use native.Mathlib.Decide.{ℕ_discrete, dec_lt}
use mathlib.Core.Path.{◌≡◌, refl, sym, ap, ◌∙◌, subst}
use mathlib.Core.Bool.{Bool, true, false}
use mathlib.Core.List.{List}
use lib.Dec.{T}
use lib.ListN.{get_or, length}
use Rattle.lists.specs.Lists.{first, up_to}
use Rattle.std.specs.Prelude.{Option, Some, None}
use Rattle.chains.specs.Links.{link_of, id_in, link_to, Absent, FirstFound, First}
use Rattle.chains.specs.Chains.{Linked, Filed}
use Rattle.chains.proofs.Firsts.{first_ids, link_id, ids_first}

-- the chain goes on at the link p, and before that no id passes
pub record AtLink (m : List ℕ) (at nb n b : ℕ) (t : ℕ → Bool) (p : ℕ) : Type 0 where
  pub filed : Filed m at nb n b t
  pub q : ℕ
  pub here : First (λ k. filed.h k ≡ b) q n p
  pub passed : Absent (λ k. T (t k)) 0 q

-- a table by keys is filed under the bucket of the key that is sought, for any hash g
pub filed_by_key : {K : Type 0} (g : K → ℕ) (key : ℕ → K) (m : List ℕ) (at nb n : ℕ) (c : K) (b : ℕ) (t : ℕ → Bool) → Linked (λ i. g (key i)) m at nb n → b ≡ g c
    → ((i : ℕ) → i < n → T (t i) → key i ≡ c) → Filed m at nb n b t
filed_by_key g key m at nb n c b t l e f = record { h = λ i. g (key i); linked = l; there = λ i q x. ap g (f i q x) ∙ sym e }

module _ (m : List ℕ) (at nb n b : ℕ) (t : ℕ → Bool) where
  link_start : Filed m at nb n b t → b < nb → AtLink m at nb n b t (get_or m (at + b) 0)
  link_start f l = record { filed = f; q = 0; here = f.linked.heads b l; passed = λ k h g has. omega arith }

  -- no id of the chain stands from q up to e, so none below e passes
  skip : (p : ℕ) (w : AtLink m at nb n b t p) (e : ℕ) → e ≤ n → Absent (λ k. w.filed.h k ≡ b) w.q e → Absent (λ k. T (t k)) 0 e
  skip p w e en a k z ke has = go (dec_lt k w.q)
    where
      go : Dec (k < w.q) → ⊥
      go (yes l) = w.passed k z l has
      go (no l) = a k (omega arith) ke (w.filed.there k (omega arith) has)

  link_end : (p : ℕ) → AtLink m at nb n b t p → p ≡ 0 → 0 ≡ link_to t (up_to n)
  link_end p w z = first_ids t n 0 (record { none = λ e. skip p w n (omega arith) (w.here.none z); some = λ k e. absurd (omega arith) })

  module _ (p : ℕ) (w : AtLink m at nb n b t p) (nz : p ≡ 0 → ⊥) where
    found : FirstFound (λ k. w.filed.h k ≡ b) w.q n (p - 1)
    found = w.here.some (p - 1) (omega arith)

    link_low : p - 1 < n
    link_low = found.within

    link_room : at + nb + nb + (p - 1) < length m
    link_room = omega (arith, link_low, w.filed.linked.room)

    before : Absent (λ k. T (t k)) 0 (p - 1)
    before = let l = link_low in skip p w (p - 1) (omega arith) found.before

    link_found : t (p - 1) ≡ true → p ≡ link_to t (up_to n)
    link_found e = first_ids t n p (record {
      none = λ z. absurd (nz z);
      some = λ k z. let d : k ≡ p - 1 = omega arith in rw d (record { from = omega arith; within = link_low; has = rw e tt; before = before });
    })

    -- what `next` reads: the first id of the chain from here on
    onward : First (λ k. w.filed.h k ≡ b) (suc (p - 1)) n (get_or m (at + nb + nb + (p - 1)) 0)
    onward = subst (λ (c : ℕ). First (λ k. w.filed.h k ≡ c) (suc (p - 1)) n (get_or m (at + nb + nb + (p - 1)) 0)) found.has (w.filed.linked.nexts (p - 1) link_low)

    link_turn : t (p - 1) ≡ false → AtLink m at nb n b t (get_or m (at + nb + nb + (p - 1)) 0)
    link_turn e = record { filed = w.filed; q = suc (p - 1); here = onward; passed = λ k z l has. go k l has (ℕ_discrete k (p - 1)) }
      where
        go : (k : ℕ) → k < suc (p - 1) → T (t k) → Dec (k ≡ p - 1) → ⊥
        go k l has (yes d) = subst T (ap t d ∙ e) has
        go k l has (no d) = before k (omega arith) (omega arith) has

-- ---- the same by ids

abbrev pub Walk : List ℕ → ℕ → ℕ → ℕ → ℕ → (ℕ → Bool) → Option ℕ → Type 0
Walk m at nb n b t here = AtLink m at nb n b t (link_of here)

-- how many ids are left from an id on
abbrev pub left : ℕ → Option ℕ → ℕ
left n None = 0
left n (Some i) = n - i

module _ (m : List ℕ) (at nb n b : ℕ) (t : ℕ → Bool) where
  pub walk_start : Filed m at nb n b t → b < nb → Walk m at nb n b t (id_in (get_or m (at + b) 0))
  walk_start f l = subst (AtLink m at nb n b t) (sym (link_id (get_or m (at + b) 0))) (link_start m at nb n b t f l)

  pub walk_end : (here : Option ℕ) → Walk m at nb n b t here → here ≡ None → None ≡ first t (up_to n)
  walk_end here w z = ap id_in (link_end m at nb n b t (link_of here) w (ap link_of z)) ∙ ids_first t n

  module _ (here : Option ℕ) (w : Walk m at nb n b t here) (i : ℕ) (e : here ≡ Some i) where
    at_i : AtLink m at nb n b t (suc i)
    at_i = subst (AtLink m at nb n b t) (ap link_of e) w

    nonzero : suc i ≡ 0 → ⊥
    nonzero z = omega arith

    same : suc i - 1 ≡ i
    same = omega arith

    pub walk_low : i < n
    walk_low = omega (arith, link_low m at nb n b t (suc i) at_i nonzero)

    pub walk_room : at + nb + nb + i < length m
    walk_room = omega (arith, link_room m at nb n b t (suc i) at_i nonzero)

    pub walk_found : t i ≡ true → Some i ≡ first t (up_to n)
    walk_found h = ap id_in (link_found m at nb n b t (suc i) at_i nonzero (ap t same ∙ h)) ∙ ids_first t n

    pub walk_turn : t i ≡ false → Walk m at nb n b t (id_in (get_or m (at + nb + nb + i) 0))
    walk_turn h =
        subst (AtLink m at nb n b t) (ap (λ (k : ℕ). get_or m (at + nb + nb + k) 0) same ∙ sym (link_id (get_or m (at + nb + nb + i) 0)))
        (link_turn m at nb n b t (suc i) at_i nonzero (ap t same ∙ h))

    pub walk_less : left n (id_in (get_or m (at + nb + nb + i) 0)) < left n here
    walk_less = rw e (go (get_or m (at + nb + nb + i) 0)
        (subst (λ (k : ℕ). First (λ j. at_i.filed.h j ≡ b) (suc k) n (get_or m (at + nb + nb + k) 0)) same (onward m at nb n b t (suc i) at_i nonzero)))
      where
        go : (v : ℕ) → First (λ k. at_i.filed.h k ≡ b) (suc i) n v → left n (id_in v) < n - i
        go zero f = omega (arith, walk_low)
        go (suc k) f = let g = f.some k refl in omega (arith, walk_low, g.from, g.within)
