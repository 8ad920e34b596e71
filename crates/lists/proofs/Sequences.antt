-- Laws of lists that are made or gone through place by place. Assumes nothing.
--   up_split, up_more, up_snoc       numbers counted up: in two parts, one more from k on, one more from 0 on
--   flat_map_append, flat_map_lem, flat_flat, flat_keep   the library's `flat_map`: over two lists, after `map`, after itself, after `keep`
--   some_append, some_flat           a test of two lists, of the parts of one
--   map_same, flat_same, some_same   functions that agree on each member
--   map_below, flat_below, some_below   functions that agree on each number below n
--   flat_up, some_up, keep_up        what one number more adds
--   flat_longer                      of more numbers no shorter a list is made
--   place_stop, place_more, place_end   a loop that looks for the first that passes; none before i did
--   place_is, place_all              the first that passes, and none passes, by places
--   some_place, has_place, place_has   a member's place is one of the list, and the member stands there
--   place_front, place_behind        the first that passes of two lists
--   fold_more, fold_all, fold_flat   a fold over the first i of a list, over all of it, and over one list more
--   at_map, get_d_any                 what stands at a place after `map`; whatever would stand behind the end
--   each_append, each_flat, each_any, each_mapped   what holds of each
use Prim.Native.Nat.{ℕ, zero, suc, ◌+◌, ◌-◌, ◌≤◌, ◌<◌}
use native.Mathlib.Omega.{arith}
use native.Mathlib.Numerals.{add-one}
use mathlib.Core.Path.{◌≡◌, refl, sym, ap, subst, ◌∙◌}
use mathlib.Core.Bool.{Bool, true, false, cond, ◌||◌, or-false, or_assoc}
use mathlib.Core.List.{List, [], ◌∷◌, ◌++◌, map, flat_map, foldl, foldl-append, append-nil, append_assoc, Memᴰ}
use lib.Dec.{T, eqb, eqb→eq}
use lib.ListN.{length, get_or, take, drop, length-append, drop_of_length-le}
use lib.Seq.{drop-cons, take-suc, take_all}
use Rattle.lists.specs.Lists.{some, keep, place, has, up_from, up_to}
use Rattle.lists.proofs.Counts.{keep_append}
use Rattle.lists.proofs.Mapped.{Each}
use Rattle.lists.proofs.Members.{place_at}
use Rattle.lists.proofs.Places.{of_up}

-- ---- numbers counted up

pub up_split : (k i j : ℕ) → up_from k (i + j) ≡ up_from k i ++ up_from (k + i) j
unfolding up_from
up_split k zero j = (λ t. up_from (a t) (b t))
  where
    a : k ≡ k + zero
    a = omega arith

    b : zero + j ≡ j
    b = omega arith
up_split k (suc i) j =
    let e : suc i + j ≡ suc (i + j) = omega arith in
    let f : suc k + i ≡ k + suc i = omega arith in
    ap (up_from k) e ∙ ap (λ (l : List ℕ). k ∷ l) (up_split (suc k) i j ∙ ap (λ (x : ℕ). up_from (suc k) i ++ up_from x j) f)

pub up_more : (k n : ℕ) → up_from k (n + 1) ≡ up_from k n ++ ((k + n) ∷ [])
unfolding up_from
up_more k n = up_split k n 1

pub up_snoc : (n : ℕ) → up_to (n + 1) ≡ up_to n ++ (n ∷ [])
up_snoc n = let e : 0 + n ≡ n = omega arith in up_more 0 n ∙ ap (λ (x : ℕ). up_to n ++ (x ∷ [])) e

-- ---- lists made of lists

module _ {A B : Type 0} (f : A → List B) where
  pub flat_map_append : (l m : List A) → flat_map f (l ++ m) ≡ flat_map f l ++ flat_map f m
  unfolding flat_map
  flat_map_append [] m = refl
  flat_map_append (x ∷ l) m = ap (λ (r : List B). f x ++ r) (flat_map_append l m) ∙ sym (append_assoc (f x) (flat_map f l) (flat_map f m))

  pub flat_map_lem : {C : Type 0} (g : C → A) (l : List C) → flat_map f (map g l) ≡ flat_map (λ x. f (g x)) l
  unfolding flat_map
  flat_map_lem g [] = refl
  flat_map_lem g (x ∷ l) = ap (λ (r : List B). f (g x) ++ r) (flat_map_lem g l)

  pub flat_flat : {C : Type 0} (g : C → List A) (l : List C) → flat_map f (flat_map g l) ≡ flat_map (λ x. flat_map f (g x)) l
  unfolding flat_map
  flat_flat g [] = refl
  flat_flat g (x ∷ l) = flat_map_append (g x) (flat_map g l) ∙ ap (λ (r : List B). flat_map f (g x) ++ r) (flat_flat g l)

pub flat_keep : {A B : Type 0} (p : A → Bool) (f : A → List B) (l : List A) → flat_map (λ x. cond (p x) (f x) []) l ≡ flat_map f (keep p l)
unfolding flat_map
flat_keep p f [] = refl
flat_keep {A} {B} p f (x ∷ l) = go (p x) (flat_keep p f l)
  where
    go : (b : Bool) → flat_map (λ x. cond (p x) (f x) []) l ≡ flat_map f (keep p l) → cond b (f x) [] ++ flat_map (λ x. cond (p x) (f x) []) l ≡ flat_map f
        (cond b (x ∷ keep p l) (keep p l))
    go true e = ap (λ (r : List B). f x ++ r) e
    go false e = e

-- ---- a test of lists

module _ {A : Type 0} (p : A → Bool) where
  pub some_append : (l m : List A) → some p (l ++ m) ≡ (some p l || some p m)
  some_append [] m = refl
  some_append (x ∷ l) m = ap (λ (b : Bool). p x || b) (some_append l m) ∙ sym (or_assoc (p x) (some p l) (some p m))

  pub some_flat : {B : Type 0} (g : B → List A) (l : List B) → some p (flat_map g l) ≡ some (λ x. some p (g x)) l
  unfolding flat_map
  some_flat g [] = refl
  some_flat g (x ∷ l) = some_append (g x) (flat_map g l) ∙ ap (λ (b : Bool). some p (g x) || b) (some_flat g l)

-- ---- functions that agree on each member

pub map_same : {A B : Type 0} (f g : A → B) (l : List A) → ((x : A) → Memᴰ x l → f x ≡ g x) → map f l ≡ map g l
map_same f g [] h = refl
map_same f g (x ∷ l) h = λ t. h x (Memᴰ.head refl) t ∷ map_same f g l (λ y m. h y (Memᴰ.tail m)) t

pub flat_same : {A B : Type 0} (f g : A → List B) (l : List A) → ((x : A) → Memᴰ x l → f x ≡ g x) → flat_map f l ≡ flat_map g l
unfolding flat_map
flat_same f g [] h = refl
flat_same f g (x ∷ l) h = λ t. h x (Memᴰ.head refl) t ++ flat_same f g l (λ y m. h y (Memᴰ.tail m)) t

pub some_same : {A : Type 0} (p q : A → Bool) (l : List A) → ((x : A) → Memᴰ x l → p x ≡ q x) → some p l ≡ some q l
some_same p q [] h = refl
some_same p q (x ∷ l) h = λ t. h x (Memᴰ.head refl) t || some_same p q l (λ y m. h y (Memᴰ.tail m)) t

-- ---- and on each number below n

below : (n i : ℕ) → Memᴰ i (up_to n) → i < n
below n i m = let h = (of_up 0 n m).1 in omega arith

pub map_below : {B : Type 0} (f g : ℕ → B) (n : ℕ) → ((i : ℕ) → i < n → f i ≡ g i) → map f (up_to n) ≡ map g (up_to n)
map_below f g n e = map_same f g (up_to n) (λ i m. e i (below n i m))

pub flat_below : {B : Type 0} (f g : ℕ → List B) (n : ℕ) → ((i : ℕ) → i < n → f i ≡ g i) → flat_map f (up_to n) ≡ flat_map g (up_to n)
flat_below f g n e = flat_same f g (up_to n) (λ i m. e i (below n i m))

pub some_below : (p q : ℕ → Bool) (n : ℕ) → ((i : ℕ) → i < n → p i ≡ q i) → some p (up_to n) ≡ some q (up_to n)
some_below p q n e = some_same p q (up_to n) (λ i m. e i (below n i m))

-- ---- one number more

pub flat_up : {B : Type 0} (f : ℕ → List B) (n : ℕ) → flat_map f (up_to (n + 1)) ≡ flat_map f (up_to n) ++ f n
unfolding flat_map
flat_up {B} f n = ap (flat_map f) (up_snoc n) ∙ flat_map_append f (up_to n) (n ∷ []) ∙ ap (λ (l : List B). flat_map f (up_to n) ++ l) (append-nil (f n))

pub some_up : (p : ℕ → Bool) (n : ℕ) → some p (up_to (n + 1)) ≡ (some p (up_to n) || p n)
some_up p n = ap (some p) (up_snoc n) ∙ some_append p (up_to n) (n ∷ []) ∙ ap (λ (b : Bool). some p (up_to n) || b) (or-false (p n))

pub keep_up : (p : ℕ → Bool) (n : ℕ) → keep p (up_to (n + 1)) ≡ keep p (up_to n) ++ cond (p n) (n ∷ []) []
keep_up p n = ap (keep p) (up_snoc n) ∙ keep_append p (up_to n) (n ∷ [])

pub flat_longer : {B : Type 0} (f : ℕ → List B) (i m : ℕ) → i ≤ m → length (flat_map f (up_to i)) ≤ length (flat_map f (up_to m))
flat_longer f i m h =
    let e : i + (m - i) ≡ m = omega arith in
    let a = ap length (ap (flat_map f) (up_split 0 i (m - i)) ∙ flat_map_append f (up_to i) (up_from (0 + i) (m - i))) ∙ length-append (flat_map f (up_to i))
    (flat_map f (up_from (0 + i) (m - i))) in
    let b = ap (λ (x : ℕ). length (flat_map f (up_to x))) e in
    omega arith

-- ---- the first that passes

-- none of the elements before i passed
module _ {A : Type 0} (p : A → Bool) (l : List A) (i : ℕ) (e : place p l ≡ i + place p (drop i l)) where
  pub place_stop : (d : A) → i < length l → p (get_or l i d) ≡ true → i ≡ place p l
  unfolding place
  place_stop d h f =
      let z : place p (drop i l) ≡ 0 = ap (place p) (drop-cons l i d h) ∙ ap (λ (b : Bool). cond b 0 (suc (place p (drop (suc i) l)))) f in
      omega arith

  pub place_more : (d : A) → i < length l → p (get_or l i d) ≡ false → place p l ≡ i + 1 + place p (drop (i + 1) l)
  unfolding place
  place_more d h f =
      let z : place p (drop i l) ≡ suc (place p (drop (suc i) l)) = ap (place p) (drop-cons l i d h) ∙ ap (λ (b : Bool). cond b 0 (suc (place p (drop (suc i) l)))) f in
      let y : place p (drop (suc i) l) ≡ place p (drop (i + 1) l) = ap (λ (n : ℕ). place p (drop n l)) (sym (add-one i)) in
      omega arith

  pub place_end : length l ≤ i → i ≡ place p l
  unfolding place
  place_end h = let z : place p (drop i l) ≡ 0 = ap (place p) (drop_of_length-le l {i = i} h) in omega arith

module _ {A : Type 0} (p : A → Bool) where
  pub place_is : (d : A) (l : List A) (i : ℕ) → i < length l → ((j : ℕ) → j < i → p (get_or l j d) ≡ false) → p (get_or l i d) ≡ true → place p l ≡ i
  unfolding place
  place_is d [] i h f e = absurd (omega arith)
  place_is d (x ∷ l) zero h f e = rw e refl
  place_is d (x ∷ l) (suc i) h f e = rw (f 0 (omega arith)) (ap suc (place_is d l i (omega arith) (λ j k. f (suc j) (omega arith)) e))

  pub place_all : (d : A) (l : List A) → ((j : ℕ) → j < length l → p (get_or l j d) ≡ false) → place p l ≡ length l
  unfolding place
  place_all d [] f = refl
  place_all d (x ∷ l) f = rw (f 0 (omega arith)) (ap suc (place_all d l (λ j k. f (suc j) (omega arith))))

  pub some_place : (l : List A) → T (some p l) → place p l < length l
  unfolding place
  some_place [] t = absurd t
  some_place (x ∷ l) t = go (p x) t (some_place l)
    where
      go : (b : Bool) → T (b || some p l) → (T (some p l) → place p l < length l) → cond b 0 (suc (place p l)) < suc (length l)
      go true t f = omega arith
      go false t f = let h = f t in omega arith

module _ {A : Type 0} (p : A → Bool) where
  pub place_front : (l m : List A) → some p l ≡ true → place p (l ++ m) ≡ place p l
  unfolding place
  place_front [] m e = absurd (let z : ◌≡◌ {A = ℕ} 0 1 = cc in omega arith)
  place_front (x ∷ l) m e = go (p x) (place_front l m) e
    where
      go : (b : Bool) → (some p l ≡ true → place p (l ++ m) ≡ place p l) → (b || some p l) ≡ true → cond b 0 (suc (place p (l ++ m))) ≡ cond b 0 (suc (place p l))
      go true below e = refl
      go false below e = ap suc (below e)

  pub place_behind : (l m : List A) → some p l ≡ false → place p (l ++ m) ≡ length l + place p m
  unfolding place
  place_behind [] m e = omega arith
  place_behind (x ∷ l) m e = go (p x) (place_behind l m) e
    where
      go : (b : Bool) → (some p l ≡ false → place p (l ++ m) ≡ length l + place p m) → (b || some p l) ≡ false → cond b 0 (suc (place p (l ++ m))) ≡ suc (length l) + place p m
      go true below e = absurd (let z : ◌≡◌ {A = ℕ} 0 1 = cc in omega arith)
      go false below e = ap suc (below e) ∙ omega arith

pub has_place : (l : List ℕ) (c : ℕ) → has l c ≡ true → place (eqb c) l < length l
has_place l c e = some_place (eqb c) l (subst T (sym e) tt)

pub place_has : (l : List ℕ) (c : ℕ) → has l c ≡ true → get_or l (place (eqb c) l) 0 ≡ c
place_has l c e = sym (eqb→eq c (get_or l (place (eqb c) l) 0) (place_at (eqb c) 0 l (has_place l c e)))

-- ---- folds

module _ {A B : Type 0} (f : B → A → B) (z : B) (l : List A) where
  pub fold_more : (i : ℕ) (d : A) → i < length l → foldl f z (take (i + 1) l) ≡ f (foldl f z (take i l)) (get_or l i d)
  fold_more i d h =
      ap (λ (k : ℕ). foldl f z (take k l)) (add-one i)
      ∙ ap (foldl f z) (take-suc l i d h)
      ∙ foldl-append f z (take i l) (get_or l i d ∷ [])

  pub fold_all : (i : ℕ) → length l ≤ i → foldl f z (take i l) ≡ foldl f z l
  fold_all i h = ap (foldl f z) (take_all i l h)

pub fold_flat : {A B : Type 0} (f : A → B → A) (a b c : A) (g : ℕ → List B) (n : ℕ) → b ≡ foldl f a (flat_map g (up_to n)) → c ≡ foldl f b (g n)
    → c ≡ foldl f a (flat_map g (up_to (n + 1)))
fold_flat {A} {B} f a b c g n e d =
    d ∙ ap (λ (x : A). foldl f x (g n)) e ∙ sym (foldl-append f a (flat_map g (up_to n)) (g n)) ∙ ap (foldl f a) (sym (flat_up g n))

-- ---- by places

pub at_map : {A B : Type 0} (f : A → B) (l : List A) (i : ℕ) (d : A) (e : B) → i < length l → get_or (map f l) i e ≡ f (get_or l i d)
at_map f [] i d e h = absurd (omega arith)
at_map f (x ∷ l) zero d e h = refl
at_map f (x ∷ l) (suc i) d e h = at_map f l i d e (omega arith)

pub get_d_any : {A : Type 0} (l : List A) (i : ℕ) (d e : A) → i < length l → get_or l i d ≡ get_or l i e
get_d_any [] i d e h = absurd (omega arith)
get_d_any (x ∷ l) zero d e h = refl
get_d_any (x ∷ l) (suc i) d e h = get_d_any l i d e (omega arith)

-- ---- what holds of each

module _ {A : Type 0} (P : A → Type 0) where
  pub each_append : (l m : List A) → Each P l → Each P m → Each P (l ++ m)
  each_append [] m a b = b
  each_append (x ∷ l) m a b = (a.0, each_append l m a.1 b)

  pub each_flat : {B : Type 0} (f : B → List A) (l : List B) → ((x : B) → Each P (f x)) → Each P (flat_map f l)
  unfolding flat_map
  each_flat f [] h = tt
  each_flat f (x ∷ l) h = each_append (f x) (flat_map f l) (h x) (each_flat f l h)

  pub each_any : (l : List A) → ((x : A) → P x) → Each P l
  each_any [] h = tt
  each_any (x ∷ l) h = (h x, each_any l h)

  pub each_mapped : {B : Type 0} (f : B → A) (l : List B) → Each (λ x. P (f x)) l → Each P (map f l)
  each_mapped f [] h = tt
  each_mapped f (x ∷ l) h = (h.0, each_mapped f l h.1)
