-- Triangles (document 01, module 1; geometry/triangle.rs): three of a kind, be they vertex numbers, candidates or points. Assumes nothing.
--   Triangle, tri        a, b, c                              vertices   a, b, c in turn
--   mapped               `Triangle::map`: a function of a, b, c in turn
--   edges                the sides as they run: (a, b), (b, c), (c, a)
--   reversed             the last two corners swapped: the opposite winding
--   contains_oriented_edge a side runs from x to y
--   sorted_vertices       the three numbers, ascending: the same for the same three in any order
--   threes, flat         a flat list taken three at a time, and back
--   corners_at            the three numbers of a flat list from a place on
use Rattle.std.specs.Prelude.{ℕ, ◌+◌, Bool, ◌&&◌, ◌||◌, eqb, ltb, get_or}
use mathlib.Core.List.{List, [], ◌∷◌, flat_map}
use Rattle.lists.specs.Lists.{sort_by}
use Rattle.geometry.specs.declared.triangle.Triangle as declared

-- the code's own
abbrev pub Triangle : Type 0 → Type 0
Triangle A = declared.Triangle A

abbrev pub tri : {A : Type 0} → A → A → A → Triangle A
tri a b c = record { a = a; b = b; c = c }

abbrev pub vertices : {A : Type 0} → Triangle A → List A
vertices t = t.a ∷ t.b ∷ t.c ∷ []

abbrev pub mapped : {A B : Type 0} → (A → B) → Triangle A → Triangle B
mapped f t = tri (f t.a) (f t.b) (f t.c)

abbrev pub edges : {A : Type 0} → Triangle A → List (A × A)
edges t = (t.a, t.b) ∷ (t.b, t.c) ∷ (t.c, t.a) ∷ []

abbrev pub reversed : {A : Type 0} → Triangle A → Triangle A
reversed t = tri t.a t.c t.b

-- a side runs from x to y, by a test of equality
abbrev pub has_edge : {A : Type 0} → (A → A → Bool) → Triangle A → A → A → Bool
has_edge eq t x y = (eq t.a x && eq t.b y) || ((eq t.b x && eq t.c y) || (eq t.c x && eq t.a y))

unfoldable pub contains_oriented_edge : Triangle ℕ → ℕ → ℕ → Bool
contains_oriented_edge t x y = (eqb t.a x && eqb t.b y) || ((eqb t.b x && eqb t.c y) || (eqb t.c x && eqb t.a y))

abbrev pub ascending : {A : Type 0} → (A → A → Bool) → Triangle A → List A
ascending before t = sort_by before (vertices t)

unfoldable pub sorted_vertices : Triangle ℕ → List ℕ
sorted_vertices t = sort_by ltb (vertices t)

-- one or two left over at the end are passed over: 1 refuses such a list first
unfoldable pub threes : {A : Type 0} → List A → List (Triangle A)
threes [] = []
threes (a ∷ []) = []
threes (a ∷ b ∷ []) = []
threes (a ∷ b ∷ c ∷ l) = tri a b c ∷ threes l

abbrev pub flat : {A : Type 0} → List (Triangle A) → List A
flat l = flat_map vertices l

abbrev pub corners_at : List ℕ → ℕ → Triangle ℕ
corners_at l k = tri (get_or l k 0) (get_or l (k + 1) 0) (get_or l (k + 2) 0)
