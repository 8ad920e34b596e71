-- The table as it is written, part by part; and the table of a caller whose labels stand before it in one room.
--   table_before   what the finder leaves in a part at the front is what it leaves in the room
--   table_made     links, sizes and first items make the table
--   lent_labels    labels in the part before the table are those of the room
--   table_behind   what the finder leaves behind `at` is what it leaves in the room
--   labels_read, labels_asked, table_fits, table_left   the same for labels `&front[from..from + n * k]`, where `(front, table) = w.split_at_mut(at)`
use Prim.Native.Nat.{ℕ, ◌+◌, ◌-◌, ◌*◌, ◌/◌, ◌≤◌, ◌<◌}
use native.Mathlib.Nat.{mul-div_cancel}
use native.Mathlib.Omega.{arith}
use native.Mathlib.Decide.{dec_lt}
use mathlib.Core.Path.{◌≡◌, sym, ap, ◌∙◌, subst, subst₂}
use mathlib.Core.List.{List, ◌++◌}
use lib.ListN.{get_or, length, take, drop, length-append, length-drop, get_or-append}
use lib.Seq.{take_at, take-append-le, drop_at, length-take-le, get_or-drop, get_or-take, ext_get_or}
use Rattle.std.proofs.lemmas.List.{get_or-append_right}
use Rattle.lists.specs.Regions.{view, Outside}
use Rattle.lists.proofs.Regions.{view_length, view_at}
use Rattle.components.specs.Joined.{SharedLabel, LeastJoined}
use Rattle.components.specs.Table.{LabelsBelow, ItemLabels, FirstWith, ComponentNumbers, ComponentTable, size}

module _ (labels : List ℕ) (n k m : ℕ) (links sizes firsts beyond old : List ℕ) (links_long : length links ≡ n) (sizes_long : length sizes ≡ n) (firsts_long : length firsts ≡ m)
    (room : n + n + m ≤ length old) (same : beyond ≡ drop (n + n + m) old) where
  abbrev made : List ℕ
  made = links ++ (sizes ++ (firsts ++ beyond))

  size_at : (r x : ℕ) → x ≡ n + r → r < n → get_or made x 0 ≡ get_or sizes r 0
  size_at r x e h =
      let d : x - n ≡ r = omega arith in
      get_or-append_right links (sizes ++ (firsts ++ beyond)) n x 0 links_long (omega arith)
      ∙ ap (λ (j : ℕ). get_or (sizes ++ (firsts ++ beyond)) j 0) d
      ∙ get_or-append sizes (firsts ++ beyond) 0 r (omega arith)

  behind : (x : ℕ) → n + n ≤ x → get_or made x 0 ≡ get_or (firsts ++ beyond) (x - n - n) 0
  behind x h =
      get_or-append_right links (sizes ++ (firsts ++ beyond)) n x 0 links_long (omega arith)
      ∙ get_or-append_right sizes (firsts ++ beyond) n (x - n) 0 sizes_long (omega arith)

  first_at : (q x : ℕ) → x ≡ n + n + q → q < m → get_or made x 0 ≡ get_or firsts q 0
  first_at q x e h =
      let d : x - n - n ≡ q = omega arith in
      behind x (omega arith) ∙ ap (λ (j : ℕ). get_or (firsts ++ beyond) j 0) d ∙ get_or-append firsts beyond 0 q (omega arith)

  rest_at : (x : ℕ) → n + n + m ≤ x → get_or made x 0 ≡ get_or old x 0
  rest_at x h =
      let d : n + n + m + (x - n - n - m) ≡ x = omega arith in
      behind x (omega arith)
      ∙ get_or-append_right firsts beyond m (x - n - n) 0 firsts_long (omega arith)
      ∙ ap (λ (l : List ℕ). get_or l (x - n - n - m) 0) same
      ∙ get_or-drop (n + n + m) old (x - n - n - m) 0 ∙ ap (λ (j : ℕ). get_or old j 0) d

  pub table_made : ((i : ℕ) → i < n → LeastJoined (SharedLabel labels n k) i (get_or links i 0)) → ((r : ℕ) → r < n → get_or sizes r 0 ≡ size links r)
      → ((q : ℕ) → q < m → FirstWith labels k q (get_or firsts q 0)) → ComponentTable labels n k m 0 old (links ++ (sizes ++ (firsts ++ beyond)))
  table_made number counted first = record {
    long = simp (length-append, same, length-drop) (omega arith);
    numbers = subst (ComponentNumbers labels n k) (sym whole) (record { long = links_long; number = number });
    sizes = λ r h. size_at r (0 + n + r) (omega arith) h ∙ counted r h ∙ ap (λ (l : List ℕ). size l r) (sym whole);
    firsts = λ q h. subst (FirstWith labels k q) (sym (first_at q (0 + n + n + q) (omega arith) h)) (first q h);
    rest = λ x h. rest_at x (outside x h (dec_lt x (n + n + m)));
  }
    where
      whole : view made 0 n ≡ links
      whole = take_at links (sizes ++ (firsts ++ beyond)) n links_long

      outside : (x : ℕ) → Outside x 0 (n + n + m) → Dec (x < n + n + m) → n + n + m ≤ x
      outside x h (yes l) = absurd (h x l (omega arith))
      outside x h (no l) = omega arith

-- ---- a room w whose table stands behind `at`, and labels before it

pub lent_labels : (w : List ℕ) (at from n : ℕ) → from + n ≤ at → at ≤ length w → take (from + n - from) (drop from (take at w)) ≡ view w from n
lent_labels w at from n h room =
    let e : from + n - from ≡ n = omega arith in
    let l = length-take-le at w room in
    ap (view (take at w) from) e
    ∙ ext_get_or 0 (view (take at w) from n) (view w from n) (view_length (take at w) from n (omega arith) ∙ sym (view_length w from n (omega arith)))
    (λ i b. let c : i < n = omega (arith, view_length (take at w) from n (omega arith)) in
    view_at (take at w) from n i c ∙ get_or-take at w (from + i) 0 (omega arith) ∙ sym (view_at w from n i c))

module _ (w v : List ℕ) (at : ℕ) (room : at ≤ length w) where
  abbrev whole : List ℕ
  whole = take at w ++ v

  front_long : length (take at w) ≡ at
  front_long = length-take-le at w room

  whole_behind : (i x : ℕ) → x ≡ at + i → get_or whole x 0 ≡ get_or v i 0
  whole_behind i x e = let d : x - at ≡ i = omega arith in get_or-append_right (take at w) v at x 0 front_long (omega arith) ∙ ap (λ (j : ℕ). get_or v j 0) d

  pub table_behind : (labels : List ℕ) (n k m : ℕ) → ComponentTable labels n k m 0 (drop at w) v → ComponentTable labels n k m at w (take at w ++ v)
  table_behind labels n k m t = record {
    long = let e = t.long in simp (length-append) (omega (arith, front_long, length-drop at w));
    numbers = subst (ComponentNumbers labels n k) (sym same) t.numbers;
    sizes = λ r h. whole_behind (0 + n + r) (at + n + r) (omega arith) ∙ t.sizes r h ∙ ap (λ (l : List ℕ). size l r) (sym same);
    firsts = λ q h. subst (FirstWith labels k q) (sym (whole_behind (0 + n + n + q) (at + n + n + q) (omega arith))) (t.firsts q h);
    rest = λ x h. rest x h (dec_lt x at);
  }
    where
      same : view (take at w ++ v) at n ≡ view v 0 n
      same = ap (take n) (drop_at (take at w) v at front_long)

      rest : (x : ℕ) → Outside x at (n + n + m) → Dec (x < at) → get_or whole x 0 ≡ get_or w x 0
      rest x h (yes l) = get_or-append (take at w) v 0 x (omega (arith, front_long)) ∙ get_or-take at w x 0 l
      rest x h (no l) =
          let d : at + (x - at) ≡ x = omega arith in
          whole_behind (x - at) x (omega arith) ∙ t.rest (x - at) (λ i b e. h i b (omega arith)) ∙ get_or-drop at w (x - at) 0 ∙ ap (λ (j : ℕ). get_or w j 0) d

-- n items with k labels each, which stand in the room from `from` on, before the table
module _ (w : List ℕ) (from n k m at : ℕ) (some : 0 < k) (before : from + n * k ≤ at) (room : at + n + n + m ≤ length w) (low : LabelsBelow (view w from (n * k)) m) where
  read_long : length (view w from (n * k)) ≡ n * k
  read_long = view_length w from (n * k) (omega arith)

  pub labels_read : (front : List ℕ) (j : ℕ) → front ≡ take at w → j ≡ n * k → take (from + j - from) (drop from front) ≡ view w from (n * k)
  labels_read front j f e = rw (f, e) (lent_labels w at from (n * k) before (omega arith))

  module _ (labels : List ℕ) (e : labels ≡ view w from (n * k)) where
    items : length labels / k ≡ n
    items = ap (λ (l : List ℕ). length l / k) e ∙ ap (λ (x : ℕ). x / k) read_long ∙ mul-div_cancel n some

    pub labels_asked : ItemLabels labels (length labels / k) k m
    labels_asked = rw (items, e) (record { some = some; long = read_long; below = low })

    pub table_fits : (old : List ℕ) → old ≡ drop at w → length labels / k + length labels / k + m ≤ length old
    table_fits old d = rw (items, d, length-drop at w) (omega arith)

    pub table_left : (front old v : List ℕ) → front ≡ take at w → old ≡ drop at w → ComponentTable labels (length labels / k) k m 0 old v
        → ComponentTable (view w from (n * k)) n k m at w (front ++ v)
    table_left front old v f d t =
        rw f (table_behind w v at (omega arith) (view w from (n * k)) n k m
        (subst (λ (l : List ℕ). ComponentTable l n k m 0 (drop at w) v) e (subst₂ (λ (x : ℕ) (l : List ℕ). ComponentTable labels x k m 0 l v) items d t)))

-- ---- a room w whose table stands at the front
pub table_before : (w v : List ℕ) (e : ℕ) (labels : List ℕ) (n k m : ℕ) → e ≤ length w → n + n + m ≤ e → ComponentTable labels n k m 0 (take e w) v
    → ComponentTable labels n k m 0 w (v ++ drop e w)
table_before w v e labels n k m room fits t = record {
  long = simp (length-append, length-drop) (omega (arith, long));
  numbers = subst (ComponentNumbers labels n k) (sym same) t.numbers;
  sizes = λ r h. get_or-append v (drop e w) 0 (0 + n + r) (omega (arith, long)) ∙ t.sizes r h ∙ ap (λ (l : List ℕ). size l r) (sym same);
  firsts = λ q h. subst (FirstWith labels k q) (sym (get_or-append v (drop e w) 0 (0 + n + n + q) (omega (arith, long)))) (t.firsts q h);
  rest = λ x h. rest x h (dec_lt x e);
}
  where
    long : length v ≡ e
    long = t.long ∙ length-take-le e w room

    same : view (v ++ drop e w) 0 n ≡ view v 0 n
    same = take-append-le n v (drop e w) (omega (arith, long))

    rest : (x : ℕ) → Outside x 0 (n + n + m) → Dec (x < e) → get_or (v ++ drop e w) x 0 ≡ get_or w x 0
    rest x h (yes l) = get_or-append v (drop e w) 0 x (omega (arith, long)) ∙ t.rest x h ∙ get_or-take e w x 0 l
    rest x h (no l) =
        let d : e + (x - e) ≡ x = omega arith in
        get_or-append_right v (drop e w) e x 0 long (omega arith) ∙ get_or-drop e w (x - e) 0 ∙ ap (λ (j : ℕ). get_or w j 0) d
