-- Components: the groups of joined items, computed. As the finder leaves them, a number for each item, they stand in Table.antt. Assumes nothing.
--   components link l    the items of l in groups: an item joins to itself all groups of the later items that it has a link with
--   component_of cs i     the group that holds i
use Rattle.std.specs.Prelude.{ℕ, Bool, not, get_or}
use mathlib.Core.List.{List, [], ◌∷◌, flat_map}
use Rattle.lists.specs.Lists.{some, keep, place, has}

unfoldable pub components : (ℕ → ℕ → Bool) → List ℕ → List (List ℕ)
components link [] = []
components link (i ∷ l) =
    let cs = components link l in
    (i ∷ flat_map (λ c. c) (keep (some (link i)) cs)) ∷ keep (λ c. not (some (link i) c)) cs

abbrev pub component_of : List (List ℕ) → ℕ → List ℕ
component_of cs i = get_or cs (place (λ c. has c i) cs) []
