-- Laws of the selection: sharing an edge goes both ways; what is computed selects exactly the triangles joined to a seed; and nothing else does. Assumes nothing.
--   share_turn        sharing an edge goes both ways
--   selected_selects  the computed selection is one that the relation allows
--   selects_unique    the relation allows only one
use Prim.Native.Nat.{ℕ, ◌<◌}
use native.Mathlib.Omega.{arith}
use mathlib.Core.Path.{◌≡◌, refl, sym, ap, ap₂, ◌∙◌, subst}
use mathlib.Core.Bool.{Bool, false, not, ◌&&◌, ◌||◌}
use mathlib.Core.List.{List, [], ◌∷◌}
use lib.Dec.{T}
use lib.ListN.{length, get_or, length-map}
use lib.Seq.{ext_get_or}
use Rattle.lists.specs.Lists.{some, up_to, Decides}
use Rattle.lists.proofs.Members.{some_of, of_some, and_parts, and_of}
use Rattle.lists.proofs.Places.{of_up, up_of, length_up, at_map_up}
use Rattle.lists.proofs.Bools.{is_true}
use Rattle.geometry.specs.Triangles.{edges}
use Rattle.edges.specs.Edges.{same_pair}
use Rattle.edges.proofs.Edges.{same_pair_sym, same_pair_as}
use Rattle.components.specs.Components.{components, component_of}
use Rattle.components.proofs.Once.{once_up, decides_as, decides_same}
use Rattle.components.proofs.Computed.{component_some}
use Rattle.cap_triangles.specs.Selection.{Cap, cap_at, is_seed, is_open_pair, share_edge, places, selected, ToSeed, Selects}
use Rattle.candidate_pool.specs.OpenEdges.{OpenEdge}

-- a pair the other way round is the same open edge
open_as : (boundary : List OpenEdge) (s u : ℕ × ℕ) → T (same_pair s u) → is_open_pair boundary s ≡ is_open_pair boundary u
unfolding is_open_pair
open_as [] s u h = refl
open_as (e ∷ l) s u h = ap₂ ◌||◌ (same_pair_as s u (is_true (same_pair s u) h) (e.from, e.to)) (open_as l s u h)

module _ (boundary : List OpenEdge) (caps : List Cap) where
  pub share_turn : (i j : ℕ) → T (share_edge boundary caps i j) → T (share_edge boundary caps j i)
  unfolding share_edge
  share_turn i j t =
      let r = of_some (λ s. not (is_open_pair boundary s) && some (same_pair s) (edges (cap_at caps j).corners)) (edges (cap_at caps i).corners) t in
      let h = and_parts (not (is_open_pair boundary r.0)) _ r.2 in
      let q = of_some (same_pair r.0) (edges (cap_at caps j).corners) h.1 in
      let e = subst T (same_pair_sym r.0 q.0) q.2 in
      some_of (λ s. not (is_open_pair boundary s) && some (same_pair s) (edges (cap_at caps i).corners)) q.1
      (and_of (not (is_open_pair boundary q.0)) (some (same_pair q.0) (edges (cap_at caps i).corners))
      (subst (λ (b : Bool). T (not b)) (open_as boundary r.0 q.0 q.2) h.0)
      (some_of (same_pair q.0) r.1 e))

  selected_at : (i : ℕ) → i < length caps → get_or (selected boundary caps) i false ≡ some (is_seed boundary caps)
      (component_of (components (share_edge boundary caps) (places boundary caps)) i)
  unfolding selected
  selected_at i h = at_map_up (λ i. some (is_seed boundary caps) (component_of (components (share_edge boundary caps) (places boundary caps)) i)) false 0 (length caps) i h
      ∙ ap (λ (k : ℕ). some (is_seed boundary caps) (component_of (components (share_edge boundary caps) (places boundary caps)) k)) (omega arith)

  pub selected_selects : Selects boundary caps (selected boundary caps)
  unfolding selected
  selected_selects = record {
    long =
        length-map (up_to (length caps)) (λ i. some (is_seed boundary caps) (component_of (components (share_edge boundary caps) (places boundary caps)) i)) ∙ length_up 0
        (length caps);
    exactly = λ i h.
        subst (Decides (ToSeed boundary caps i)) (sym (selected_at i h))
        (decides_as
        (λ r. let u = of_up 0 (length caps) r.1 in let b = u.1 in record { seed = r.0; supplied = omega arith; seeds = r.2; chain = r.3 })
        (λ s. let b = s.supplied in (s.seed, up_of 0 (length caps) (omega arith) (omega arith), s.seeds, s.chain))
        (component_some (share_edge boundary caps) share_turn (up_to (length caps)) (once_up 0 (length caps)) (is_seed boundary caps)
        (up_of 0 (length caps) (omega arith) (omega arith))));
  }

  pub selects_unique : (c d : List Bool) → Selects boundary caps c → Selects boundary caps d → c ≡ d
  selects_unique c d f g =
      ext_get_or false c d (f.long ∙ sym g.long)
      (λ i h. let e = f.long in let b : i < length caps = omega arith in
      decides_same (get_or c i false) (get_or d i false) (f.exactly i b) (g.exactly i b) (λ x. x) (λ x. x))
