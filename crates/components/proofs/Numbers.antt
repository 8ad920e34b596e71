-- Laws of the components' numbers and sizes as the finder leaves them, and the way from them to the definitions' computed components.
use Prim.Native.Nat.{ℕ, ◌<◌}
use native.Mathlib.Omega.{arith}
use native.Mathlib.Decide.{ℕ_discrete}
use mathlib.Core.Path.{◌≡◌, refl, sym, ap, ◌∙◌, subst}
use mathlib.Core.Bool.{Bool}
use mathlib.Core.List.{List}
use lib.Dec.{T, leb, leb→le, le→leb, eqb, eqb→eq}
use lib.ListN.{get_or, length}
use lib.Seq.{ext_get_or}
use Rattle.lists.specs.Lists.{some, keep, place, count, has, up_to, Decides}
use Rattle.lists.proofs.Members.{keep_of, of_keep, get_d_mem, mem_get_d}
use Rattle.lists.proofs.Places.{of_up, up_of, at_up, length_up}
use Rattle.lists.proofs.Counts.{count_places}
use Rattle.components.specs.Joined.{Joined, one, same, Among, SharedLabel, Once, ManyJoined}
use Rattle.components.specs.Components.{components, component_of}
use Rattle.components.specs.Table.{ComponentNumbers, size}
use Rattle.components.proofs.Joined.{joined_map, joined_keeps, joined_ends, least_le, least_unique, least_same, least_joined}
use Rattle.components.proofs.Once.{decides_same, decides_eqb, decides_as, once_keep, once_up, once_shorter, place_once}
use Rattle.components.proofs.Computed.{component_decides, component_some}

-- no list but one meets the contract
pub numbers_unique : (labels : List ℕ) (n k : ℕ) (c d : List ℕ) → ComponentNumbers labels n k c → ComponentNumbers labels n k d → c ≡ d
numbers_unique labels n k c d f g =
    ext_get_or 0 c d (f.long ∙ sym g.long) (λ i h. let a = f.long in least_unique (f.number i (omega arith)) (get_or d i 0) (g.number i (omega arith)))

pub joined_in_lem : (labels : List ℕ) (n k : ℕ) {i j : ℕ} → Joined (SharedLabel labels n k) i j → i < n → j < n
joined_in_lem labels n k c = (joined_keeps (λ (x : ℕ). x < n) (λ x y s. (s.i_in, s.j_in)) _ _ c).0

module _ (labels : List ℕ) (n k : ℕ) (c : List ℕ) (f : ComponentNumbers labels n k c) where
  -- equal numbers exactly if joined
  pub numbers_decide : (i j : ℕ) → i < n → j < n → Decides (Joined (SharedLabel labels n k) i j) (eqb (get_or c i 0) (get_or c j 0))
  numbers_decide i j a b =
      decides_as (λ e. least_joined (f.number i a) (f.number j b) e) (λ d. least_same (f.number i a) (f.number j b) d) (decides_eqb (get_or c i 0) (get_or c j 0))

  pub number_in : (i : ℕ) → i < n → get_or c i 0 < n
  number_in i a = let h = least_le (f.number i a) in omega arith

  -- a component's number is the number of its own item
  pub number_own : (i : ℕ) → i < n → get_or c (get_or c i 0) 0 ≡ get_or c i 0
  number_own i a = sym (least_same (f.number i a) (f.number (get_or c i 0) (number_in i a)) (f.number i a).joined)

  -- the size of i's component is how many places of the n hold an item joined to i, by whatever test says so
  pub size_count : (i : ℕ) → i < n → (p : ℕ → Bool) → ((j : ℕ) → j < n → Decides (Joined (SharedLabel labels n k) i j) (p j)) → size c (get_or c i 0) ≡ count p (up_to n)
  size_count i a p d =
      let l = length_up 0 n in
      let u = f.long in
      count_places (eqb (get_or c i 0)) p 0 0 c (up_to n) (omega arith)
      (λ j h.
      let b : j < n = omega arith in
      decides_same (eqb (get_or c i 0) (get_or c j 0)) (p j) (numbers_decide i j a b) (d j b) (λ x. x) (λ x. x) ∙ ap p (sym (at_up 0 n j b ∙ omega arith)))

  -- those with i's number
  abbrev pub alike : ℕ → ℕ → Bool
  alike i j = eqb (get_or c i 0) (get_or c j 0)

  -- m different items or more are joined to i exactly if its component's size is m or more
  pub size_many : (m i : ℕ) → i < n → Decides (ManyJoined (SharedLabel labels n k) m i) (leb m (size c (get_or c i 0)))
  size_many m i a = record {
    sound = λ t. let e = leb→le m (size c (get_or c i 0)) t in record {
      others = keep (alike i) (up_to n);
      once = once_keep (alike i) (up_to n) (once_up 0 n);
      enough = omega (arith, counted);
      chain = λ j h. let u = of_keep (alike i) (up_to n) h in (numbers_decide i j a (let b = (of_up 0 n u.0).1 in omega arith)).sound u.1;
    };
    complete = λ s.
        let shorter = once_shorter s.others (keep (alike i) (up_to n)) s.once (λ j h.
        let b = joined_in_lem labels n k (s.chain j h) a in
        keep_of (alike i) (up_of 0 n (omega arith) (omega arith)) ((numbers_decide i j a b).complete (s.chain j h))) in
        let enough = s.enough in
        le→leb m (size c (get_or c i 0)) (omega (arith, counted));
  }
    where
      counted : size c (get_or c i 0) ≡ count (alike i) (up_to n)
      counted = size_count i a (alike i) (λ j b. numbers_decide i j a b)

-- ---- items of a list, each by its place

-- Sharing a label, among the places of l, is having a link among its items.
pub record LabelsLink (labels : List ℕ) (k : ℕ) (link : ℕ → ℕ → Bool) (l : List ℕ) : Type 0 where
  pub shared : (a b : ℕ) → (a ≡ b → ⊥) → SharedLabel labels (length l) k a b → T (link (get_or l a 0) (get_or l b 0))
  pub linked : (a b : ℕ) → a < length l → b < length l → T (link (get_or l a 0) (get_or l b 0)) → Joined (SharedLabel labels (length l) k) a b

module _ (labels : List ℕ) (k : ℕ) (link : ℕ → ℕ → Bool) (l : List ℕ) (once : Once l) (f : LabelsLink labels k link l) where
  pub joined_to : {a b : ℕ} → Joined (SharedLabel labels (length l) k) a b → Joined (Among link l) (get_or l a 0) (get_or l b 0)
  joined_to c = joined_map (λ (a : ℕ). get_or l a 0) (λ a b s. step a b s (ℕ_discrete a b)) _ _ c
    where
      step : (a b : ℕ) → SharedLabel labels (length l) k a b → Dec (a ≡ b) → Joined (Among link l) (get_or l a 0) (get_or l b 0)
      step a b s (yes e) = joined_ends refl (ap (λ (x : ℕ). get_or l x 0) (sym e)) same
      step a b s (no d) = one (record { left_in = get_d_mem l a 0 s.i_in; right_in = get_d_mem l b 0 s.j_in; linked = f.shared a b d s })

  abbrev at : ℕ → ℕ
  at x = place (eqb x) l

  pub joined_from : {a b : ℕ} → a < length l → b < length l → Joined (Among link l) (get_or l a 0) (get_or l b 0) → Joined (SharedLabel labels (length l) k) a b
  joined_from {a} {b} ha hb c = joined_ends (sym (place_once l once a ha)) (sym (place_once l once b hb)) (joined_map at step _ _ c)
    where
      step : (x y : ℕ) → Among link l x y → Joined (SharedLabel labels (length l) k) (at x) (at y)
      step x y s =
          let p = mem_get_d 0 s.left_in in
          let q = mem_get_d 0 s.right_in in
          let g = f.linked p.0 q.0 p.1 q.1 (rw (p.2, q.2) s.linked) in
          joined_ends (ap at (sym p.2) ∙ place_once l once p.0 p.1) (ap at (sym q.2) ∙ place_once l once q.0 q.1) g

  -- what the finder says of the places is what the definitions say of the items
  module _ (turn : (i j : ℕ) → T (link i j) → T (link j i)) (c : List ℕ) (g : ComponentNumbers labels (length l) k c) where
    pub numbers_joined : (a b : ℕ) → a < length l → b < length l → Decides (Joined (Among link l) (get_or l a 0) (get_or l b 0)) (eqb (get_or c a 0) (get_or c b 0))
    numbers_joined a b ha hb = decides_as joined_to (joined_from ha hb) (numbers_decide labels (length l) k c g a b ha hb)

    pub numbers_component : (a b : ℕ) → a < length l → b < length l
        → eqb (get_or c a 0) (get_or c b 0) ≡ has (component_of (components link l) (get_or l a 0)) (get_or l b 0)
    numbers_component a b ha hb =
        decides_same _ _ (numbers_joined a b ha hb) (component_decides link turn l once (get_or l b 0) (get_d_mem l a 0 ha)) (λ x. x) (λ x. x)

    pub size_component : (a : ℕ) → a < length l → size c (get_or c a 0) ≡ count (has (component_of (components link l) (get_or l a 0))) l
    size_component a ha =
        count_places (eqb (get_or c a 0)) (has (component_of (components link l) (get_or l a 0))) 0 0 c l g.long
        (λ b h. let e = g.long in numbers_component a b ha (omega arith))

    -- one that passes is in a's component: some place has a's number and an item that passes
    pub numbers_some : (p : ℕ → Bool) (a : ℕ) → a < length l
        → Decides ((b : ℕ) × (b < length l) × T (p (get_or l b 0)) × (get_or c a 0 ≡ get_or c b 0)) (some p (component_of (components link l) (get_or l a 0)))
    numbers_some p a ha = decides_as
        (λ r.
        let q = mem_get_d 0 r.1 in
        let e = (numbers_joined a q.0 ha q.1).complete (subst (λ (x : ℕ). Joined (Among link l) (get_or l a 0) x) (sym q.2) r.3) in
        (q.0, q.1, subst (λ (x : ℕ). T (p x)) (sym q.2) r.2, eqb→eq (get_or c a 0) (get_or c q.0 0) e))
        (λ r.
        let d = (numbers_joined a r.0 ha r.1).sound ((decides_eqb (get_or c a 0) (get_or c r.0 0)).complete r.3) in
        (get_or l r.0 0, get_d_mem l r.0 0 r.1, r.2, d))
        (component_some link turn l once p (get_d_mem l a 0 ha))
