-- Laws of parts of a buffer (specs/Regions.antt), and of a store into one. Assumes nothing.
--   view_length, view_at, view_map   a part: how long, at a place, as a list made place by place
--   view_same                 two buffers that agree at its places
--   view_more, view_put, view_stay   one more at its end; the same of a store there; a store behind it
--   at_set                    what stands at a place after a store
--   Filled, filled_none, filled_more   a part that is written place by place
--   above_none, above_less, above_more   a buffer is above itself; a lesser bound; one change after another
use Prim.Native.Nat.{ℕ, ◌+◌, ◌≤◌, ◌<◌}
use native.Mathlib.Omega.{arith}
use native.Mathlib.Numerals.{add-one}
use native.Mathlib.Decide.{ℕ_discrete}
use mathlib.Core.Path.{◌≡◌, refl, sym, ap, ◌∙◌}
use mathlib.Core.List.{List, [], ◌∷◌, ◌++◌, map}
use mathlib.Core.Logic.{◌⊎◌, inl, inr}
use lib.ListN.{get_or, set, length, take, drop, length-take, length-drop, length-set, length-map}
use lib.Seq.{get_or-take, get_or-drop, get_or-set_same, get_or-set_other, ext_get_or, take-suc, take-suc-set, take-set-le, drop-set-add}
use Rattle.lists.specs.Lists.{up_to}
use Rattle.lists.specs.Regions.{view, Outside, Above}
use Rattle.lists.proofs.Places.{length_up, at_map_up}

pub view_length : (w : List ℕ) (o n : ℕ) → o + n ≤ length w → length (view w o n) ≡ n
view_length w o n h = simp (length-take, length-drop) (omega arith)

pub view_at : (w : List ℕ) (o n i : ℕ) → i < n → get_or (view w o n) i 0 ≡ get_or w (o + i) 0
view_at w o n i h = get_or-take n (drop o w) i 0 h ∙ get_or-drop o w i 0

-- two buffers that agree at the places of a part have the same part
pub view_same : (u w : List ℕ) (o n : ℕ) → o + n ≤ length u → length w ≡ length u → ((i : ℕ) → i < n → get_or w (o + i) 0 ≡ get_or u (o + i) 0)
    → view w o n ≡ view u o n
view_same u w o n fits long same =
    let lu = view_length u o n fits in
    let lw = view_length w o n (omega arith) in
    ext_get_or 0 (view w o n) (view u o n) (lw ∙ sym lu)
    (λ i h. view_at w o n i (omega arith) ∙ same i (omega arith) ∙ sym (view_at u o n i (omega arith)))

pub view_map : (w : List ℕ) (o n : ℕ) → o + n ≤ length w → view w o n ≡ map (λ i. get_or w (o + i) 0) (up_to n)
view_map w o n h =
    let l = view_length w o n h in
    ext_get_or 0 (view w o n) (map (λ i. get_or w (o + i) 0) (up_to n)) (l ∙ sym (length-map (up_to n) (λ i. get_or w (o + i) 0) ∙ length_up 0 n))
    (λ i k. let m : i < n = omega (arith, l) in view_at w o n i m ∙ sym (at_map_up (λ (j : ℕ). get_or w (o + j) 0) 0 0 n i m ∙ first o i))
  where
    first : (o i : ℕ) → get_or w (o + (0 + i)) 0 ≡ get_or w (o + i) 0
    first o i = let e : o + (0 + i) ≡ o + i = omega arith in ap (λ (x : ℕ). get_or w x 0) e

-- one word more, with the others as they were
pub view_more : (u w : List ℕ) (o n x : ℕ) → o + n < length u → length w ≡ length u → ((i : ℕ) → i < n → get_or w (o + i) 0 ≡ get_or u (o + i) 0) → get_or w (o + n) 0 ≡ x
    → view w o (n + 1) ≡ view u o n ++ (x ∷ [])
view_more u w o n x room long same last =
    ap (λ (j : ℕ). view w o j) (add-one n)
    ∙ take-suc (drop o w) n 0 (omega (arith, length-drop o w))
    ∙ ap (λ (l : List ℕ). l ++ (get_or (drop o w) n 0 ∷ [])) (view_same u w o n (omega arith) long same)
    ∙ ap (λ (y : ℕ). view u o n ++ (y ∷ [])) (get_or-drop o w n 0 ∙ last)

pub view_put : (w : List ℕ) (o n x : ℕ) → o + n < length w → view (set w (o + n) x) o (n + 1) ≡ view w o n ++ (x ∷ [])
view_put w o n x h =
    ap (λ (l : List ℕ). take (n + 1) l) (drop-set-add o w n x) ∙ ap (λ (k : ℕ). take k (set (drop o w) n x)) (add-one n)
    ∙ take-suc-set (drop o w) n x (omega (arith, length-drop o w))

pub view_stay : (w : List ℕ) (o n x : ℕ) → view (set w (o + n) x) o n ≡ view w o n
view_stay w o n x = ap (take n) (drop-set-add o w n x) ∙ take-set-le n (drop o w) n x (omega arith)

-- what stands at o + i after a store at o + r
pub at_set : (w : List ℕ) (o r q i : ℕ) → o + r < length w
    → ((i ≡ r) × (get_or (set w (o + r) q) (o + i) 0 ≡ q)) ⊎ ((i ≡ r → ⊥) × (get_or (set w (o + r) q) (o + i) 0 ≡ get_or w (o + i) 0))
at_set w o r q i h = go (ℕ_discrete i r)
  where
    go : Dec (i ≡ r) → ((i ≡ r) × (get_or (set w (o + r) q) (o + i) 0 ≡ q)) ⊎ ((i ≡ r → ⊥) × (get_or (set w (o + r) q) (o + i) 0 ≡ get_or w (o + i) 0))
    go (yes e) = inl (e, rw e (get_or-set_same w (o + r) q 0 h))
    go (no f) = inr (f, get_or-set_other w (o + r) (o + i) q 0 (λ e. f (omega arith)))

-- v is w with g j at each place o + j of a part, for j from 0 up to, not including, i
pub record Filled (g : ℕ → ℕ) (w v : List ℕ) (o i : ℕ) : Type 0 where
  pub long : length v ≡ length w
  pub at : (j : ℕ) → j < i → get_or v (o + j) 0 ≡ g j
  pub rest : (x : ℕ) → Outside x o i → get_or v x 0 ≡ get_or w x 0

pub filled_none : (g : ℕ → ℕ) (w : List ℕ) (o : ℕ) → Filled g w w o 0
filled_none g w o = record { long = refl; at = λ j h. absurd (omega arith); rest = λ x h. refl }

pub filled_more : (g : ℕ → ℕ) (w v : List ℕ) (o i : ℕ) → o + i < length v → Filled g w v o i → Filled g w (set v (o + i) (g i)) o (i + 1)
filled_more g w v o i hi f = record {
  long = length-set v (o + i) (g i) ∙ f.long;
  at = λ j h. go j h (at_set v o i (g i) j hi);
  rest = λ x h. get_or-set_other v (o + i) x (g i) 0 (λ e. h i (omega arith) e) ∙ f.rest x (λ j l e. h j (omega arith) e);
}
  where
    go : (j : ℕ) → j < i + 1 → ((j ≡ i) × (get_or (set v (o + i) (g i)) (o + j) 0 ≡ g i)) ⊎ ((j ≡ i → ⊥) × (get_or (set v (o + i) (g i)) (o + j) 0 ≡ get_or v (o + j) 0))
        → get_or (set v (o + i) (g i)) (o + j) 0 ≡ g j
    go j h (inl e) = e.1 ∙ ap g (sym e.0)
    go j h (inr e) = let d = e.0 in e.1 ∙ f.at j (omega arith)

-- ---- nothing below a place changed

pub above_none : (b : ℕ) (w : List ℕ) → Above b w w
above_none b w = record { long = refl; below = λ x h. refl }

pub above_less : (a b : ℕ) (w w' : List ℕ) → a ≤ b → Above b w w' → Above a w w'
above_less a b w w' h r = record { long = r.long; below = λ x k. r.below x (omega arith) }

pub above_more : (b : ℕ) (u v w : List ℕ) → Above b u v → Above b v w → Above b u w
above_more b u v w r s = record { long = s.long ∙ r.long; below = λ x k. s.below x k ∙ r.below x k }
