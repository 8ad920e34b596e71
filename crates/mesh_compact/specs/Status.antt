-- What becomes of each facet in cleaning (document 01, module 4), from which the cleaned mesh is derived. Over the welded vertices, and facets that name them. Assumes nothing.
--   share_vertex    two facets have a vertex in common
--   all_passed      the facets that passed the filters
--   is_alone m i    the component of i, "joined by a shared vertex" among those that passed, has fewer than m facets
--   status m i     why facet i is dropped: by the first filter that does, else as alone; or none, and then it is kept
--   kept_facets m   the facets kept, in order
--   Stays          the rule for a kept facet without its computing: it passed, and m facets or more that passed are joined to it, itself counted
--   Rule           the statuses give no reason exactly of the facets that stay
use Rattle.std.specs.Prelude.{ℕ, ◌<◌, Bool, cond, ltb, length, Float, Option, None, Some, is_none}
use Rattle.std.specs.Option.{option_or}
use mathlib.Core.List.{List, Memᴰ}
use Rattle.lists.specs.Lists.{some as any, has, keep, count, up_to, Decides}
use Rattle.geometry.specs.declared.point.Point.{Point}
use Rattle.geometry.specs.Triangles.{Triangle, vertices}
use Rattle.components.specs.Joined.{Among, ManyJoined}
use Rattle.components.specs.Components.{components, component_of}
use Rattle.mesh_filter.specs.Filters.{Reason, alone, facet_at, filtered, passed}

unfoldable pub share_vertex : List (Triangle ℕ) → ℕ → ℕ → Bool
share_vertex facets i j = any (has (vertices (facet_at facets i))) (vertices (facet_at facets j))

module _ (eps : Float) (points : List Point) (facets : List (Triangle ℕ)) where
  abbrev pub all_passed : List ℕ
  all_passed = passed eps points facets (length facets)

  unfoldable pub is_alone : ℕ → ℕ → Bool
  is_alone m i =
      let l = all_passed in
      let cs = components (share_vertex facets) l in
      ltb (count (has (component_of cs i)) l) m

  unfoldable pub status : ℕ → ℕ → Option Reason
  status m i = option_or (filtered eps points facets (passed eps points facets i) (facet_at facets i)) (cond (is_alone m i) (Some alone) None)

  unfoldable pub kept_facets : ℕ → List ℕ
  kept_facets m = keep (λ i. is_none (status m i)) (up_to (length facets))

  pub record Stays (m i : ℕ) : Type 0 where
    pub through : Memᴰ i all_passed
    pub many : ManyJoined (Among (share_vertex facets) all_passed) m i

  abbrev pub Rule : ℕ → Type 0
  Rule m = (i : ℕ) → i < length facets → Decides (Stays m i) (is_none (status m i))
