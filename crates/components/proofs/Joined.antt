-- Laws of `Joined`: how a chain over one relation becomes a chain over another, and of the least item joined.
use Prim.Native.Nat.{ℕ, ◌≤◌}
use native.Mathlib.Nat.{le_antisymm}
use mathlib.Core.Path.{◌≡◌, refl, sym, ◌∙◌, subst, subst₂}
use Rattle.components.specs.Joined.{Joined, one, same, back, via, LeastJoined}

-- a relation whose steps are chains of another has its chains there, also where the items have other names
pub joined_map : {R S : ℕ → ℕ → Type 0} (g : ℕ → ℕ) → ((i j : ℕ) → R i j → Joined S (g i) (g j)) → (i j : ℕ) → Joined R i j → Joined S (g i) (g j)
joined_map g f i j (one r) = f i j r
joined_map g f i j same = same
joined_map g f i j (back c) = back (joined_map g f _ _ c)
joined_map g f i j (via c d) = via (joined_map g f _ _ c) (joined_map g f _ _ d)

pub joined_into : {R S : ℕ → ℕ → Type 0} → ((i j : ℕ) → R i j → Joined S i j) → (i j : ℕ) → Joined R i j → Joined S i j
joined_into f i j (one r) = f i j r
joined_into f i j same = same
joined_into f i j (back c) = back (joined_into f _ _ c)
joined_into f i j (via c d) = via (joined_into f _ _ c) (joined_into f _ _ d)

-- what is the same at both ends of a step is the same at both ends of a chain
pub joined_const : {R : ℕ → ℕ → Type 0} (g : ℕ → ℕ) → ((i j : ℕ) → R i j → g i ≡ g j) → (i j : ℕ) → Joined R i j → g i ≡ g j
joined_const g f i j (one r) = f i j r
joined_const g f i j same = refl
joined_const g f i j (back c) = sym (joined_const g f _ _ c)
joined_const g f i j (via c d) = joined_const g f _ _ c ∙ joined_const g f _ _ d

-- what a step has at both ends, a chain has at both ends or at neither
pub joined_keeps : {R : ℕ → ℕ → Type 0} (P : ℕ → Type 0) → ((i j : ℕ) → R i j → P i × P j) → (i j : ℕ) → Joined R i j → (P i → P j) × (P j → P i)
joined_keeps P f i j (one r) = let h = f i j r in (λ a. h.1, λ a. h.0)
joined_keeps P f i j same = (λ a. a, λ a. a)
joined_keeps P f i j (back c) = let h = joined_keeps P f _ _ c in (h.1, h.0)
joined_keeps P f i j (via c d) = let h = joined_keeps P f _ _ c in let g = joined_keeps P f _ _ d in (λ a. g.0 (h.0 a), λ a. h.1 (g.1 a))

-- a chain, its ends named otherwise
pub joined_ends : {R : ℕ → ℕ → Type 0} {i i' j j' : ℕ} → i' ≡ i → j' ≡ j → Joined R i j → Joined R i' j'
joined_ends {R} p q c = subst₂ (λ (a b : ℕ). Joined R a b) (sym p) (sym q) c

module _ {R : ℕ → ℕ → Type 0} {i r : ℕ} (h : LeastJoined R i r) where
  pub least_le : r ≤ i
  least_le = h.least i same

  -- only one item is the least joined to i
  pub least_unique : (s : ℕ) → LeastJoined R i s → r ≡ s
  least_unique s g = le_antisymm (h.least s g.joined) (g.least r h.joined)

  -- the least item is its own least, and that of all that are joined to i
  pub least_moves : (j : ℕ) → Joined R i j → LeastJoined R j r
  least_moves j c = record { joined = via (back c) h.joined; least = λ l d. h.least l (via c d) }

-- joined items have the same least, and items with the same least are joined
pub least_same : {R : ℕ → ℕ → Type 0} {i j r s : ℕ} → LeastJoined R i r → LeastJoined R j s → Joined R i j → r ≡ s
least_same {j = j} {s = s} g h c = least_unique (least_moves g j c) s h

pub least_joined : {R : ℕ → ℕ → Type 0} {i j r s : ℕ} → LeastJoined R i r → LeastJoined R j s → r ≡ s → Joined R i j
least_joined {R} {i} {j} g h e = via (subst (λ (x : ℕ). Joined R i x) e g.joined) (back h.joined)
