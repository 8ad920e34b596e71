-- Laws of the union-find's links (specs/Forest.antt): what a store to a link does to the trees.
use Prim.Native.Nat.{ℕ, ◌+◌, ◌≤◌, ◌<◌}
use native.Mathlib.Nat.{eq-or-lt_of_le}
use native.Mathlib.Decide.{ℕ_discrete}
use native.Mathlib.Omega.{arith}
use mathlib.Core.Path.{◌≡◌, refl, sym, ap, ◌∙◌}
use mathlib.Core.List.{List}
use mathlib.Core.Logic.{◌⊎◌, inl, inr, ⊎_elim}
use lib.ListN.{get_or, set, length, length-set}
use lib.Seq.{get_or-set_same, get_or-set_other}
use borrow.Author.Count.{below_more}
use Rattle.components.specs.Joined.{Joined, one, same, back, via}
use Rattle.components.specs.Forest.{SameTree, Forest, TreesKept, RootFound, RootOf, AddedLink, old, new, United}
use Rattle.components.proofs.Joined.{joined_into, joined_ends}

-- what stands at i after a store at r
pub stored_at : (w : List ℕ) (r q i : ℕ) → r < length w → ((i ≡ r) × (get_or (set w r q) i 0 ≡ q)) ⊎ ((i ≡ r → ⊥) × (get_or (set w r q) i 0 ≡ get_or w i 0))
stored_at w r q i h = go (ℕ_discrete i r)
  where
    go : Dec (i ≡ r) → ((i ≡ r) × (get_or (set w r q) i 0 ≡ q)) ⊎ ((i ≡ r → ⊥) × (get_or (set w r q) i 0 ≡ get_or w i 0))
    go (yes e) = inl (e, rw e (get_or-set_same w r q 0 h))
    go (no f) = inr (f, get_or-set_other w r i q 0 f)

pub kept_refl : (w : List ℕ) (n : ℕ) → Forest w n → TreesKept w w n
kept_refl w n f = record {
  long = refl;
  forest = f;
  roots = λ i h e. e;
  more = λ i j l. l;
  less = λ i j l. l;
}

pub kept_trans : (u w v : List ℕ) (n : ℕ) → TreesKept u w n → TreesKept w v n → TreesKept u v n
kept_trans u w v n a b = record {
  long = b.long ∙ a.long;
  forest = b.forest;
  roots = λ i h e. b.roots i h (a.roots i h e);
  more = λ i j l. b.more i j (a.more i j l);
  less = λ i j l. a.less i j (b.less i j l);
}

pub link : (w : List ℕ) (n i j : ℕ) → i < n → get_or w i 0 ≡ j → SameTree w n i j
link w n i j h e = one (record { i_in = h; to = e })

-- r's link is made to go to where its end's link goes
module _ (w : List ℕ) (n r : ℕ) (in-w : n ≤ length w) (r-in : r < n) (f : Forest w n) where
  pub halve : TreesKept w (set w r (get_or w (get_or w r 0) 0)) n
  halve = record {
    long = length-set w r q;
    forest = λ i h. ⊎_elim (λ e. omega (arith, f r r-in, f p p_in)) (λ e. omega (arith, f i h)) (stored_at w r q i r_long);
    roots = λ i h e. ⊎_elim
        (λ s. let pr : p ≡ r = ap (λ (k : ℕ). get_or w k 0) (sym s.0) ∙ e ∙ s.0 in
        s.1 ∙ ap (λ (k : ℕ). get_or w k 0) pr ∙ pr ∙ sym s.0)
        (λ s. s.1 ∙ e) (stored_at w r q i r_long);
    more = joined_into (λ i j l. ⊎_elim
        (λ s. joined_ends s.0 (sym l.to ∙ ap (λ (k : ℕ). get_or w k 0) s.0) r_p)
        (λ s. link v n i j l.i_in (s.1 ∙ l.to))
        (stored_at w r q i r_long));
    less = joined_into (λ i j l. ⊎_elim
        (λ s. joined_ends s.0 (sym l.to ∙ s.1) (via (link w n r p r-in refl) (link w n p q p_in refl)))
        (λ s. link w n i j l.i_in (sym s.1 ∙ l.to))
        (stored_at w r q i r_long));
  }
    where
      p : ℕ
      p = get_or w r 0

      q : ℕ
      q = get_or w (get_or w r 0) 0

      v : List ℕ
      v = set w r q

      r_long : r < length w
      r_long = omega arith

      p_in : p < n
      p_in = omega (arith, f r r-in)

      r_p : SameTree v n r p
      r_p = go (ℕ_discrete p r)
        where
          go : Dec (p ≡ r) → SameTree v n r p
          go (yes e) = joined_ends refl e same
          go (no d) = via (link v n r q r-in (get_or-set_same w r q 0 r_long)) (back (link v n p q p_in (get_or-set_other w r p q 0 (λ e. d (omega arith)))))

-- a turn of `find`
pub halve_at : (u w : List ℕ) (n x r p : ℕ) → n ≤ length w → r < n → p ≡ get_or w r 0 → TreesKept u w n → SameTree w n x r
    → TreesKept u (set w r (get_or w p 0)) n × SameTree (set w r (get_or w p 0)) n x (get_or w p 0)
halve_at u w n x r p in-w r-in e k t =
    let h : TreesKept w (set w r (get_or w p 0)) n = rw e (halve w n r in-w r-in k.forest) in
    (kept_trans u w _ n k h, via (h.more x r t) (link _ n r _ r-in (get_or-set_same w r _ 0 (omega arith))))

-- the roots s and t are made one tree: t's link goes to s
module _ (w : List ℕ) (n s t : ℕ) (in-w : n ≤ length w) (lo : s ≤ t) (t_in : t < n) (f : Forest w n) (root : get_or w t 0 ≡ t) where
  pub graft : United w (set w t s) n t s
  graft = record {
    long = length-set w t s;
    forest = λ i h. ⊎_elim (λ e. omega arith) (λ e. omega (arith, f i h)) (stored_at w t s i t_long);
    more = joined_into more_one;
    less = joined_into (λ i j l. ⊎_elim
        (λ e. joined_ends e.0 (sym l.to ∙ e.1) (one new))
        (λ e. one (old (record { i_in = l.i_in; to = sym e.1 ∙ l.to })))
        (stored_at w t s i t_long));
  }
    where
      t_long : t < length w
      t_long = omega arith

      more_one : (i j : ℕ) → AddedLink w n t s i j → SameTree (set w t s) n i j
      more_one i j (old l) =
          ⊎_elim
          (λ e. joined_ends e.0 (sym l.to ∙ ap (λ (k : ℕ). get_or w k 0) e.0 ∙ root) same)
          (λ e. link (set w t s) n i j l.i_in (e.1 ∙ l.to))
          (stored_at w t s i t_long)
      more_one i j new = link (set w t s) n t s t_in (get_or-set_same w t s 0 t_long)

-- a union of two trees, told of other items of the same trees
pub united_at : (u w v : List ℕ) (n a b s t : ℕ) → TreesKept u w n → SameTree w n a s → SameTree w n b t → United w v n s t → United u v n a b
united_at u w v n a b s t k la lb h = record {
  long = h.long ∙ k.long;
  forest = h.forest;
  more = joined_into more_one;
  less = joined_into (λ i j l. joined_into less_one i j (h.less i j (one l)));
}
  where
    kept : (i j : ℕ) → SameTree w n i j → SameTree v n i j
    kept = joined_into (λ i j l. h.more i j (one (old l)))

    more_one : (i j : ℕ) → AddedLink u n a b i j → SameTree v n i j
    more_one i j (old l) = kept i j (k.more i j (one l))
    more_one i j new = via (kept a s la) (via (h.more s t (one new)) (back (kept b t lb)))

    was : (i j : ℕ) → SameTree w n i j → Joined (AddedLink u n a b) i j
    was i j l = joined_into (λ i j l. one (old l)) i j (k.less i j l)

    less_one : (i j : ℕ) → AddedLink w n s t i j → Joined (AddedLink u n a b) i j
    less_one i j (old l) = was i j (one l)
    less_one i j new = via (back (was a s la)) (via (one new) (was b t lb))

pub united_sym : (u v : List ℕ) (n a b : ℕ) → United u v n b a → United u v n a b
united_sym u v n a b h = record {
  long = h.long;
  forest = h.forest;
  more = λ i j c. h.more i j (joined_into (turned a b) i j c);
  less = λ i j l. joined_into (turned b a) i j (h.less i j l);
}
  where
    turned : (a b i j : ℕ) → AddedLink u n a b i j → Joined (AddedLink u n b a) i j
    turned a b i j (old l) = one (old l)
    turned a b i j new = back (one new)

pub found_rooted : (u w : List ℕ) (n x r : ℕ) → RootFound u w n x r → RootOf w n x r
found_rooted u w n x r f = record { small = f.small; root = f.root; tree = f.tree }

-- what `enter` does once it has both roots: s of a's tree, t of b's
module _ (u v : List ℕ) (n a b s t : ℕ) (in-u : n ≤ length u) (a_in : a < n) (b_in : b < n) (ra : RootOf u n a s) (fb : RootFound u v n b t) where
  both : (x : List ℕ) → United v x n s t → United u x n a b
  both x = united_at u v x n a b s t fb.kept (fb.kept.more a s ra.tree) fb.tree

  in_v : n ≤ length v
  in_v = omega (arith, fb.kept.long)

  s_root : get_or v s 0 ≡ s
  s_root = fb.kept.roots s (omega (arith, ra.small)) ra.root

  -- in the united trees what was linked still is, and a is with b
  still : (x : List ℕ) → United u x n a b → (i j : ℕ) → SameTree v n i j → SameTree x n i j
  still x h i j l = joined_into (λ i j l. h.more i j (one (old l))) i j (fb.kept.less i j l)

  pub unite_up : s < t → United u (set v t s) n a b
  unite_up h = both (set v t s) (united_sym v _ n s t (graft v n s t in_v (omega arith) (omega (arith, fb.small)) fb.kept.forest fb.root))

  pub rooted_up : s < t → RootOf (set v t s) n a s
  rooted_up h = record {
    small = ra.small;
    root = get_or-set_other v t s s 0 (λ e. omega arith) ∙ s_root;
    tree = still (set v t s) (unite_up h) a s (fb.kept.more a s ra.tree);
  }

  pub unite_down : t ≤ s → United u (set v s t) n a b
  unite_down h = both (set v s t) (graft v n t s in_v h (omega (arith, ra.small)) fb.kept.forest s_root)

  pub rooted_down : t ≤ s → RootOf (set v s t) n a t
  rooted_down h = record {
    small = omega (arith, ra.small);
    root = ⊎_elim (λ e. e.1) (λ e. e.1 ∙ fb.root) (stored_at v s t t (omega (arith, ra.small, in_v)));
    tree = via ((unite_down h).more a b (one new)) (still (set v s t) (unite_down h) b t fb.tree);
  }

-- each of the items below i is linked to its root
abbrev pub flat_below : List ℕ → ℕ → Type 0
flat_below w i = (j : ℕ) → j < i → get_or w (get_or w j 0) 0 ≡ get_or w j 0

-- a turn of `flatten`
module _ (u w : List ℕ) (n i : ℕ) (in-w : n ≤ length w) (i_in : i < n) (k : TreesKept u w n) (all : flat_below w i) where
  pub flatten_kept : TreesKept u (set w i (get_or w (get_or w i 0) 0)) n
  flatten_kept = kept_trans u w _ n k (halve w n i in-w i_in k.forest)

  pub flatten_more : flat_below (set w i (get_or w (get_or w i 0) 0)) (i + 1)
  flatten_more = below_more (λ (j : ℕ). get_or v (get_or v j 0) 0 ≡ get_or v j 0) i before here
    where
      p : ℕ
      p = get_or w i 0

      q : ℕ
      q = get_or w (get_or w i 0) 0

      v : List ℕ
      v = set w i q

      i_long : i < length w
      i_long = omega arith

      kept_at : (j : ℕ) → j < i → get_or v j 0 ≡ get_or w j 0
      kept_at j h = get_or-set_other w i j q 0 (λ e. omega arith)

      before : (j : ℕ) → j < i → get_or v (get_or v j 0) 0 ≡ get_or v j 0
      before j h = rw (kept_at j h) (kept_at (get_or w j 0) (omega (arith, k.forest j (omega arith))) ∙ all j h)

      v_i : get_or v i 0 ≡ q
      v_i = get_or-set_same w i q 0 i_long

      root : get_or v q 0 ≡ q
      root = ⊎_elim
          (λ (e : p ≡ i). let q-i : q ≡ i = ap (λ (x : ℕ). get_or w x 0) e ∙ e in ap (λ (x : ℕ). get_or v x 0) q-i ∙ v_i)
          (λ (h : p < i). kept_at q (omega (arith, k.forest p (omega arith))) ∙ all p h)
          (eq-or-lt_of_le (k.forest i i_in))

      here : get_or v (get_or v i 0) 0 ≡ get_or v i 0
      here = rw v_i root
