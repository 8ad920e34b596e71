-- What the finder's loop keeps, as laws on lists: how it starts, what a turn does, what it comes to.
use Prim.Native.Nat.{ℕ, ◌+◌, ◌*◌, ◌-◌, ◌/◌, ◌%◌, ◌<◌}
use native.Mathlib.Nat.{div-lt_iff_lt-mul, mod-lt, div-add-mod'}
use native.Mathlib.Decide.{ℕ_discrete}
use native.Mathlib.Omega.{arith}
use mathlib.Core.Path.{◌≡◌, refl, sym, ap, ◌∙◌, subst}
use mathlib.Core.List.{List}
use mathlib.Core.Logic.{⊎_elim}
use lib.ListN.{get_or, set, length, length-set}
use lib.Seq.{get_or-set_same, get_or-set_other}
use Rattle.std.proofs.lemmas.List.{set-get_or}
use lib.Arith.{digits_lt, digits_div}
use borrow.Author.Count.{below_more}
use Rattle.components.specs.Joined.{Joined, one, same, back, via, SharedLabel, LeastJoined}
use Rattle.components.specs.Table.{ItemLabels, Seen, FirstWith}
use Rattle.components.specs.Forest.{SameTree, TreesKept, AddedLink, old, new, United, Flattened, LabelEntered, Hung, LabelsEntered, Swept}
use Rattle.components.proofs.Joined.{joined_into, joined_const, joined_keeps, joined_ends}
use Rattle.components.proofs.Forest.{link, stored_at}

seen_more : (labels : List ℕ) (k t q f : ℕ) → Seen labels k t q f → Seen labels k (t + 1) q f
seen_more labels k t q f h = let l = h.before in record { s = h.s; before = omega arith; item = h.item; label = h.label; first = h.first }

pub swept_at : (labels : List ℕ) (n k m : ℕ) (w firsts : List ℕ) (t r : ℕ) → t ≡ r → Swept labels n k m w firsts t → Swept labels n k m w firsts r
swept_at labels n k m w firsts t r e s = subst (λ (x : ℕ). Swept labels n k m w firsts x) e s

module _ (labels : List ℕ) (n k m : ℕ) (item_labels : ItemLabels labels n k m) where
  item_in : (s : ℕ) → s < n * k → s / k < n
  item_in s h = (div-lt_iff_lt-mul item_labels.some).1 h

  pub label_low : (x : ℕ) → x < n * k → get_or labels x 0 < m
  label_low x h = item_labels.below x (omega (arith, item_labels.long))

  slots_share : (s t : ℕ) → s < n * k → t < n * k → get_or labels s 0 ≡ get_or labels t 0 → SharedLabel labels n k (s / k) (t / k)
  slots_share s t hs ht e = record {
    a = s % k;
    b = t % k;
    i_in = item_in s hs;
    j_in = item_in t ht;
    a_in = mod-lt s item_labels.some;
    b_in = mod-lt t item_labels.some;
    label = rw (div-add-mod' s k, div-add-mod' t k) e;
  }

  -- each item a tree of its own, and no label seen
  pub swept_start : (w firsts : List ℕ) → length w ≡ n → ((i : ℕ) → i < n → get_or w i 0 ≡ i) → length firsts ≡ m → ((q : ℕ) → q < m → get_or firsts q 0 ≡ 0)
      → Swept labels n k m w firsts 0
  swept_start w firsts e own f z = record {
    upto = omega arith;
    links = e;
    labelled = f;
    going = record {
      forest = λ i l. omega (arith, own i l);
      sound = joined_into (λ i j l. joined_ends refl (sym l.to ∙ own i l.i_in) same);
      seen = λ q f l d. absurd (omega (arith, z q l));
      hung = λ s l. absurd (omega arith);
    };
  }

  -- links that changed, and no tree did
  pub swept_kept : (w v firsts : List ℕ) (t : ℕ) → Swept labels n k m w firsts t → TreesKept w v n → Swept labels n k m v firsts t
  swept_kept w v firsts t s f = record {
    upto = s.upto;
    links = f.long ∙ s.links;
    labelled = s.labelled;
    going = record {
      forest = f.forest;
      sound = λ i j l. s.going.sound i j (f.less i j l);
      seen = s.going.seen;
      hung = λ r h. let b = s.going.hung r h in record { f = b.f; first = b.first; tree = f.more _ _ b.tree };
    };
  }

  module _ (w firsts : List ℕ) (t : ℕ) (t_in : t < length labels) (g : LabelsEntered labels w firsts n k m t) where
    abbrev q : ℕ
    q = get_or labels t 0

    q_in : get_or labels t 0 < m
    q_in = item_labels.below t t_in

    -- the first item of a label that was seen
    seen_in : (f : ℕ) → get_or firsts (get_or labels t 0) 0 ≡ f + 1 → f < n
    seen_in f e = let h = g.seen (get_or labels t 0) f q_in e in rw (← h.item) (item_in h.s (omega (arith, h.before, item_labels.long)))

    going_new : length firsts ≡ m → get_or firsts (get_or labels t 0) 0 ≡ 0 → LabelsEntered labels w (set firsts (get_or labels t 0) (t / k + 1)) n k m (t + 1)
    going_new fits e = record {
      forest = g.forest;
      sound = g.sound;
      seen = λ q' f h e'. ⊎_elim
          (λ a. record {
            s = t;
            before = omega arith;
            item = omega arith;
            label = sym a.0;
            first = λ r l d. let b = g.hung r l in omega (arith, b.first, ap (λ (x : ℕ). get_or firsts x 0) (d ∙ a.0));
          })
          (λ a. seen_more labels k t q' f (g.seen q' f h (sym a.1 ∙ e')))
          (stored_at firsts q (t / k + 1) q' (omega (arith, q_in)));
      hung = below_more (λ (s : ℕ). Hung labels w (set firsts q (t / k + 1)) n k s) t
          (λ s h. let b = g.hung s h in record {
            f = b.f;
            first = get_or-set_other firsts q (get_or labels s 0) (t / k + 1) 0 (λ a. omega (arith, b.first, ap (λ (x : ℕ). get_or firsts x 0) a)) ∙ b.first;
            tree = b.tree;
          })
          (record { f = t / k; first = get_or-set_same firsts q (t / k + 1) 0 (omega (arith, q_in)); tree = same });
    }

    going_seen : (v : List ℕ) (f : ℕ) → get_or firsts (get_or labels t 0) 0 ≡ f + 1 → United w v n (t / k) f → LabelsEntered labels v firsts n k m (t + 1)
    going_seen v f e h = record {
      forest = h.forest;
      sound = λ i j l. joined_into sound_one i j (h.less i j l);
      seen = λ q' f' l e'. seen_more labels k t q' f' (g.seen q' f' l e');
      hung = below_more (λ (s : ℕ). Hung labels v firsts n k s) t
          (λ s l. let b = g.hung s l in record { f = b.f; first = b.first; tree = joined_into (λ i j a. h.more i j (one (old a))) _ _ b.tree })
          (record { f = f; first = e; tree = h.more _ _ (one new) });
    }
      where
        sound_one : (i j : ℕ) → AddedLink w n (t / k) f i j → Joined (SharedLabel labels n k) i j
        sound_one i j (old l) = g.sound i j (one l)
        sound_one i j new =
            let b = g.seen (get_or labels t 0) f q_in e in
            joined_ends refl (sym b.item) (one (slots_share t b.s (omega (arith, item_labels.long)) (omega (arith, b.before, item_labels.long)) (sym b.label)))

    turn : (v : List ℕ) (x r : ℕ) → length w ≡ n → length firsts ≡ m → LabelEntered w v n (get_or firsts (get_or labels t 0) 0) x (t / k) r
        → (length v ≡ n) × LabelsEntered labels v (set firsts (get_or labels t 0) x) n k m (t + 1)
    turn v x r long fits h = go (ℕ_discrete (get_or firsts (get_or labels t 0) 0) 0)
      where
        go : Dec (get_or firsts (get_or labels t 0) 0 ≡ 0) → (length v ≡ n) × LabelsEntered labels v (set firsts (get_or labels t 0) x) n k m (t + 1)
        go (yes e) = let u = h.unseen e in rw (u.0, u.1) (long, going_new fits e)
        go (no d) =
            let f : ℕ = get_or firsts (get_or labels t 0) 0 - 1 in
            let e : get_or firsts (get_or labels t 0) 0 ≡ f + 1 = omega arith in
            let u = h.seen f e in
            rw (u.1, set-get_or firsts (get_or labels t 0) 0) (u.0.long ∙ long, going_seen v f e u.0)

  -- slot j of item i
  module _ (w firsts : List ℕ) (i j : ℕ) (s : Swept labels n k m w firsts (i * k + j)) (i_in : i < n) (j_in : j < k) where
    pub slot_in : i * k + j < length labels
    slot_in = omega (arith, digits_lt i_in j_in, item_labels.long)

    pub swept_seen : (f : ℕ) → get_or firsts (get_or labels (i * k + j) 0) 0 ≡ f + 1 → f < n
    swept_seen = seen_in w firsts (i * k + j) slot_in s.going

    pub swept_turn : (v : List ℕ) (x r : ℕ) → LabelEntered w v n (get_or firsts (get_or labels (i * k + j) 0) 0) x i r
        → Swept labels n k m v (set firsts (get_or labels (i * k + j) 0) x) (i * k + (j + 1))
    swept_turn v x r e =
        let g = turn w firsts (i * k + j) slot_in s.going v x r s.links s.labelled (rw (digits_div i j_in) e) in
        swept_at labels n k m v (set firsts (get_or labels (i * k + j) 0) x) (i * k + j + 1) (i * k + (j + 1)) (omega arith)
        (record { upto = omega (arith, digits_lt i_in j_in); links = g.0; labelled = length-set firsts (get_or labels (i * k + j) 0) x ∙ s.labelled; going = g.1 })

  -- all the slots are done, and the links go to the roots
  module _ (w v firsts : List ℕ) (s : Swept labels n k m w firsts (n * k)) (h : Flattened w v n) where
    share_linked : (i j : ℕ) → SharedLabel labels n k i j → SameTree w n i j
    share_linked i j l =
        let x = s.going.hung (i * k + l.a) (digits_lt l.i_in l.a_in) in
        let y = s.going.hung (j * k + l.b) (digits_lt l.j_in l.b_in) in
        let e : x.f ≡ y.f = omega (arith, x.first, y.first, ap (λ (q : ℕ). get_or firsts q 0) l.label) in
        via (joined_ends (sym (digits_div i l.a_in)) refl x.tree) (joined_ends e (sym (digits_div j l.b_in)) (back y.tree))

    same_number : (i j : ℕ) → Joined (SharedLabel labels n k) i j → get_or v i 0 ≡ get_or v j 0
    same_number i j c =
        joined_const (λ (x : ℕ). get_or v x 0) (λ x y l. sym (h.flat x l.i_in) ∙ ap (λ (z : ℕ). get_or v z 0) l.to) i j
        (h.kept.more i j (joined_into share_linked i j c))

    pub swept_number : (i : ℕ) → i < n → LeastJoined (SharedLabel labels n k) i (get_or v i 0)
    swept_number i a = record {
      joined = s.going.sound i _ (h.kept.less i _ (link v n i _ a refl));
      least = λ j c. omega (arith, same_number i j c, h.kept.forest j ((joined_keeps (λ (x : ℕ). x < n) (λ x y s. (s.i_in, s.j_in)) i j c).0 a));
    }

    pub swept_first : (q : ℕ) → q < m → FirstWith labels k q (get_or firsts q 0)
    swept_first q l = record {
      none = λ z r b d. let u = s.going.hung r (omega (arith, item_labels.long)) in omega (arith, u.first, ap (λ (x : ℕ). get_or firsts x 0) d);
      first = λ f d. let u = s.going.seen q f l d in let b = u.before in
          record { s = u.s; before = omega (arith, item_labels.long); item = u.item; label = u.label; first = u.first };
    }
