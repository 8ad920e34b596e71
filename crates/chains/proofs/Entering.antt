-- One id more: what the three stores of `enter` do to the table.
use Prim.Native.Nat.{ℕ, suc, ◌+◌, ◌-◌, ◌≤◌, ◌<◌}
use native.Mathlib.Omega.{arith}
use native.Mathlib.Decide.{ℕ_discrete, dec_lt}
use mathlib.Core.Path.{◌≡◌, refl, sym, ap, ◌∙◌}
use mathlib.Core.List.{List}
use lib.ListN.{get_or, set, length, length-set}
use lib.Seq.{get_or-set_same, get_or-set_other}
use borrow.Author.Tests.{eq-eqb, ne_eqb}
use Rattle.lists.specs.Regions.{Outside}
use Rattle.chains.specs.Links.{Absent, First, Final, Last}
use Rattle.chains.specs.Chains.{Linked, link_place, linked_in}
use Rattle.chains.proofs.Firsts.{first_other, first_kept, last_other, first_new, last_new, first_empty, last_empty, first_cong, last_cong}

-- cleared heads and tails are the table of no id
pub linked_none : (h : ℕ → ℕ) (m : List ℕ) (at nb : ℕ) → at + nb + nb ≤ length m → ((i : ℕ) → i < nb + nb → get_or m (at + i) 0 ≡ 0) → Linked h m at nb 0
linked_none h m at nb room z = record {
  room = omega arith;
  heads = λ b l. rw (z b (omega arith)) (first_empty (λ k. h k ≡ b) 0 0 (omega arith));
  tails = λ b l. rw (tail_zero b l) (last_empty (λ k. h k ≡ b));
  nexts = λ i l. absurd (omega arith);
}
  where
    tail_zero : (b : ℕ) → b < nb → get_or m (at + nb + b) 0 ≡ 0
    tail_zero b l = ap (λ (x : ℕ). get_or m x 0) (omega arith) ∙ z (nb + b) (omega arith)

-- only the buckets of the entered ids count
pub linked_cong : (h g : ℕ → ℕ) (m : List ℕ) (at nb n : ℕ) → ((i : ℕ) → i < n → h i ≡ g i) → Linked h m at nb n → Linked g m at nb n
linked_cong h g m at nb n e l = record {
  room = l.room;
  heads = λ b q. first_cong (λ k. h k ≡ b) (λ k. g k ≡ b) 0 n _ (λ k kn x. sym (e k kn) ∙ x) (λ k kn x. e k kn ∙ x) (l.heads b q);
  tails = λ b q. last_cong (λ k. h k ≡ b) (λ k. g k ≡ b) n _ (λ k kn x. sym (e k kn) ∙ x) (λ k kn x. e k kn ∙ x) (l.tails b q);
  nexts = λ i q. first_cong (λ k. h k ≡ h i) (λ k. g k ≡ g i) (suc i) n _
      (λ k kn x. sym (e k kn) ∙ x ∙ e i q) (λ k kn x. e k kn ∙ x ∙ sym (e i q)) (l.nexts i q);
}

-- stores elsewhere leave the table
pub linked_same : (h : ℕ → ℕ) (m v : List ℕ) (at nb n : ℕ) → length v ≡ length m → ((i : ℕ) → i < nb + nb + n → get_or v (at + i) 0 ≡ get_or m (at + i) 0)
    → Linked h m at nb n → Linked h v at nb n
linked_same h m v at nb n long same l = record {
  room = let r = l.room in omega arith;
  heads = λ b q. rw (same b (omega arith)) (l.heads b q);
  tails = λ b q. rw (moved (nb + b) (at + nb + b) (omega arith) (omega arith)) (l.tails b q);
  nexts = λ i q. rw (moved (nb + nb + i) (at + nb + nb + i) (omega arith) (omega arith)) (l.nexts i q);
}
  where
    moved : (i x : ℕ) → i < nb + nb + n → x ≡ at + i → get_or v x 0 ≡ get_or m x 0
    moved i x h e = rw e (same i h)

-- a bucket's tail is no more than the number of ids
pub tail_le : (h : ℕ → ℕ) (m : List ℕ) (at nb n b : ℕ) → Linked h m at nb n → b < nb → get_or m (at + nb + b) 0 ≤ n
tail_le h m at nb n b l q = go (ℕ_discrete (get_or m (at + nb + b) 0) 0)
  where
    go : Dec (get_or m (at + nb + b) 0 ≡ 0) → get_or m (at + nb + b) 0 ≤ n
    go (yes e) = omega arith
    go (no d) = let f = (l.tails b q).some (get_or m (at + nb + b) 0 - 1) (omega arith) in let w = f.within in omega arith

-- ---- the three stores

module _ (m : List ℕ) (at nb id b p : ℕ) (b_in : b < nb) (room : at + nb + nb + id < length m) where
  abbrev stored : List ℕ
  stored = set (set (set m p (id + 1)) (at + nb + b) (id + 1)) (at + nb + nb + id) 0

  stored_length : length stored ≡ length m
  stored_length = simp length-set

  kept : (x : ℕ) → (x ≡ p → ⊥) → (x ≡ at + nb + b → ⊥) → (x ≡ at + nb + nb + id → ⊥) → get_or stored x 0 ≡ get_or m x 0
  kept x h₁ h₂ h₃ =
      get_or-set_other (set (set m p (id + 1)) (at + nb + b) (id + 1)) (at + nb + nb + id) x 0 0 h₃
      ∙ get_or-set_other (set m p (id + 1)) (at + nb + b) x (id + 1) 0 h₂ ∙ get_or-set_other m p x (id + 1) 0 h₁

  next_is : get_or stored (at + nb + nb + id) 0 ≡ 0
  next_is = get_or-set_same (set (set m p (id + 1)) (at + nb + b) (id + 1)) (at + nb + nb + id) 0 0 (simp length-set room)

  tail_is : get_or stored (at + nb + b) 0 ≡ id + 1
  tail_is =
      get_or-set_other (set (set m p (id + 1)) (at + nb + b) (id + 1)) (at + nb + nb + id) (at + nb + b) 0 0 (λ e. omega arith)
      ∙ get_or-set_same (set m p (id + 1)) (at + nb + b) (id + 1) 0 (simp length-set (omega arith))

  placed : p < length m → (p ≡ at + nb + b → ⊥) → (p ≡ at + nb + nb + id → ⊥) → get_or stored p 0 ≡ id + 1
  placed h h₂ h₃ =
      get_or-set_other (set (set m p (id + 1)) (at + nb + b) (id + 1)) (at + nb + nb + id) p 0 0 h₃
      ∙ get_or-set_other (set m p (id + 1)) (at + nb + b) p (id + 1) 0 h₂ ∙ get_or-set_same m p (id + 1) 0 h

-- what both cases have in common; c is the bucket of the new id n
module _ (h : ℕ → ℕ) (m : List ℕ) (at nb n p : ℕ) (c_in : h n < nb) (room : at + nb + nb + n < length m) (l : Linked h m at nb n) where
  abbrev v : List ℕ
  v = stored m at nb n (h n) p c_in room

  all_tails : ((b : ℕ) → b < nb → at + nb + b ≡ p → ⊥) → (b : ℕ) → b < nb → Last (λ k. h k ≡ b) (n + 1) (get_or v (at + nb + b) 0)
  all_tails far b q = go (ℕ_discrete (h n) b)
    where
      go : Dec (h n ≡ b) → Last (λ k. h k ≡ b) (n + 1) (get_or v (at + nb + b) 0)
      go (yes e) = rw (← e, tail_is m at nb n (h n) p c_in room) (last_new (λ k. h k ≡ h n) n refl)
      go (no d) =
          rw (kept m at nb n (h n) p c_in room (at + nb + b) (far b q) (λ e. d (omega arith)) (λ e. omega arith))
          (last_other (λ k. h k ≡ b) 0 n (get_or m (at + nb + b) 0) d (l.tails b q))

  all_nexts : ((i : ℕ) → i < n → First (λ k. h k ≡ h i) (suc i) (n + 1) (get_or v (at + nb + nb + i) 0))
      → (i : ℕ) → i < n + 1 → First (λ k. h k ≡ h i) (suc i) (n + 1) (get_or v (at + nb + nb + i) 0)
  all_nexts old i q = go (ℕ_discrete i n)
    where
      go : Dec (i ≡ n) → First (λ k. h k ≡ h i) (suc i) (n + 1) (get_or v (at + nb + nb + i) 0)
      go (yes e) = rw (e, next_is m at nb n (h n) p c_in room) (first_empty (λ k. h k ≡ h n) (suc n) (n + 1) (omega arith))
      go (no d) = old i (omega arith)

  -- the bucket is empty: the new id is its head
  entered_head : p ≡ at + h n → Absent (λ k. h k ≡ h n) 0 n → Linked h v at nb (n + 1)
  entered_head ep none = record {
    room = rw (stored_length m at nb n (h n) p c_in room) (omega arith);
    heads = λ b q. head b q (ℕ_discrete (h n) b);
    tails = all_tails (λ b q e. omega arith);
    nexts = all_nexts (λ i q.
        rw (kept m at nb n (h n) p c_in room (at + nb + nb + i) (λ e. omega arith) (λ e. omega arith) (λ e. omega arith))
        (first_other (λ k. h k ≡ h i) (suc i) n _ (λ e. none i (omega arith) q (sym e)) (l.nexts i q)));
  }
    where
      head : (b : ℕ) → b < nb → Dec (h n ≡ b) → First (λ k. h k ≡ b) 0 (n + 1) (get_or v (at + b) 0)
      head b q (yes e) =
          rw (← e, ← ep, placed m at nb n (h n) p c_in room (omega arith) (λ x. omega arith) (λ x. omega arith))
          (first_new (λ k. h k ≡ h n) 0 n (omega arith) refl none)
      head b q (no d) =
          rw (kept m at nb n (h n) p c_in room (at + b) (λ e. d (omega arith)) (λ e. omega arith) (λ e. omega arith))
          (first_other (λ k. h k ≡ b) 0 n _ d (l.heads b q))

  -- the bucket has a last id j: the new id comes after it
  entered_next : (j : ℕ) → p ≡ at + nb + nb + j → Final (λ k. h k ≡ h n) n j → Linked h v at nb (n + 1)
  entered_next j ep f = record {
    room = rw (stored_length m at nb n (h n) p c_in room) (omega arith);
    heads = λ b q.
        rw (kept m at nb n (h n) p c_in room (at + b) (λ e. omega arith) (λ e. omega arith) (λ e. omega arith))
        (head b q (ℕ_discrete (h n) b));
    tails = all_tails (λ b q e. omega arith);
    nexts = all_nexts (λ i q. next i q (ℕ_discrete i j) (ℕ_discrete (h n) (h i)) (dec_lt i j));
  }
    where
      j_in : j < n
      j_in = f.within

      head : (b : ℕ) → b < nb → Dec (h n ≡ b) → First (λ k. h k ≡ b) 0 (n + 1) (get_or m (at + b) 0)
      head b q (yes e) = first_kept (λ k. h k ≡ b) 0 n _ (λ z. (l.heads b q).none z j (omega arith) j_in (f.has ∙ e)) (l.heads b q)
      head b q (no d) = first_other (λ k. h k ≡ b) 0 n _ d (l.heads b q)

      same : (i : ℕ) → i < n → (i ≡ j → ⊥) → get_or v (at + nb + nb + i) 0 ≡ get_or m (at + nb + nb + i) 0
      same i q d = kept m at nb n (h n) p c_in room (at + nb + nb + i) (λ e. d (omega arith)) (λ e. omega arith) (λ e. omega arith)

      next : (i : ℕ) → i < n → Dec (i ≡ j) → Dec (h n ≡ h i) → Dec (i < j) → First (λ k. h k ≡ h i) (suc i) (n + 1) (get_or v (at + nb + nb + i) 0)
      next i q (yes e) y z =
          rw (e, ← ep, placed m at nb n (h n) p c_in room (omega arith) (λ x. omega arith) (λ x. omega arith))
          (first_new (λ k. h k ≡ h j) (suc j) n (omega arith) (sym f.has) (λ k a b x. f.after k a b (x ∙ f.has)))
      next i q (no d) (no y) z = rw (same i q d) (first_other (λ k. h k ≡ h i) (suc i) n _ y (l.nexts i q))
      next i q (no d) (yes y) (yes z) =
          rw (same i q d) (first_kept (λ k. h k ≡ h i) (suc i) n _ (λ x. (l.nexts i q).none x j (omega arith) j_in (f.has ∙ y)) (l.nexts i q))
      next i q (no d) (yes y) (no z) = absurd (f.after i (omega arith) q (sym y))

-- the id n, entered with its bucket
pub linked_more : (h : ℕ → ℕ) (m : List ℕ) (at nb n b : ℕ) → b ≡ h n → b < nb → at + nb + nb + n < length m → Linked h m at nb n → Linked h (linked_in m at nb n b) at nb (n + 1)
linked_more h m at nb n b e q room l = rw e (go (ℕ_discrete (get_or m (at + nb + h n) 0) 0))
  where
    c_in : h n < nb
    c_in = omega arith

    go : Dec (get_or m (at + nb + h n) 0 ≡ 0) → Linked h (linked_in m at nb n (h n)) at nb (n + 1)
    go (yes z) =
        entered_head h m at nb n (link_place at nb (h n) (get_or m (at + nb + h n) 0)) c_in room l
        (rw (eq-eqb (get_or m (at + nb + h n) 0) 0 z)) ((l.tails (h n) c_in).none z)
    go (no d) =
        entered_next h m at nb n (link_place at nb (h n) (get_or m (at + nb + h n) 0)) c_in room l (get_or m (at + nb + h n) 0 - 1)
        (rw (ne_eqb (get_or m (at + nb + h n) 0) 0 d)) ((l.tails (h n) c_in).some (get_or m (at + nb + h n) 0 - 1) (omega arith))

-- all else is as it was
pub entered_length : (m : List ℕ) (at nb id b : ℕ) → length (linked_in m at nb id b) ≡ length m
entered_length m at nb id b = simp length-set

pub entered_rest : (m : List ℕ) (at nb id b : ℕ) → b < nb → get_or m (at + nb + b) 0 ≤ id → (x : ℕ) → Outside x at (nb + nb + (id + 1))
    → get_or (linked_in m at nb id b) x 0 ≡ get_or m x 0
entered_rest m at nb id b q low x out =
    let p = link_place at nb b (get_or m (at + nb + b) 0) in
    get_or-set_other (set (set m p (id + 1)) (at + nb + b) (id + 1)) (at + nb + nb + id) x 0 0 (λ e. out (nb + nb + id) (omega arith) (omega arith))
    ∙ get_or-set_other (set m p (id + 1)) (at + nb + b) x (id + 1) 0 (λ e. out (nb + b) (omega arith) (omega arith))
    ∙ get_or-set_other m p x (id + 1) 0 (λ e. elsewhere (ℕ_discrete (get_or m (at + nb + b) 0) 0) e)
  where
    elsewhere : Dec (get_or m (at + nb + b) 0 ≡ 0) → x ≡ link_place at nb b (get_or m (at + nb + b) 0) → ⊥
    elsewhere (yes z) e = let d : x ≡ at + b = e ∙ rw (eq-eqb (get_or m (at + nb + b) 0) 0 z) refl in out b (omega arith) d
    elsewhere (no z) e =
        let d : x ≡ at + nb + nb + (get_or m (at + nb + b) 0 - 1) = e ∙ rw (ne_eqb (get_or m (at + nb + b) 0) 0 z) refl in
        out (nb + nb + (get_or m (at + nb + b) 0 - 1)) (omega arith) (omega arith)

-- the place of the new link is in the table
pub place_in : (at nb id b t : ℕ) → b < nb → t ≤ id → link_place at nb b t ≤ at + nb + nb + id
place_in at nb id b t q low = go (ℕ_discrete t 0)
  where
    go : Dec (t ≡ 0) → link_place at nb b t ≤ at + nb + nb + id
    go (yes e) = rw (eq-eqb t 0 e) (omega arith)
    go (no d) = rw (ne_eqb t 0 d) (omega arith)
