-- Demand 3 of what the definitions compute. Assumes nothing.
--   closed_meets      the mesh of a selection is what demand 3 says; result_meets of the definition's mesh, for every input
--   demand_decides    demand 3 leaves no other mesh
--   closes            what an operation that settles the definition's mesh writes is what demand 3 says
use Prim.Native.Nat.{ℕ}
use mathlib.Core.Path.{◌≡◌, refl, sym, ap, ◌∙◌, subst}
use mathlib.Core.Bool.{Bool, false, cond}
use mathlib.Core.List.{List, ◌++◌}
use lib.ListN.{length, get_or}
use lib.Ieee.{Float}
use Rattle.geometry.specs.declared.point.Point.{Point}
use Rattle.geometry.specs.Meshes.{Mesh, mesh_of}
use Rattle.refusals.specs.Refusals.{Test}
use Rattle.refusals.specs.Answers.{mesh_outputs, Answer}
use Rattle.refusals.proofs.Answers.{answer_done}
use Rattle.candidate_pool.specs.OpenEdges.{OpenEdge}
use Rattle.candidate_pool.specs.Pool.{Pool}
use Rattle.candidate_surface.specs.declared.asked.Asked.{Asked}
use Rattle.cap_triangles.specs.Selection.{Cap, caps_of, outward_caps, selected, Selects}
use Rattle.cap_triangles.proofs.Selecting.{selected_selects, selects_unique}
use Rattle.caps.specs.declared.mode.BoundaryClosure.{BoundaryClosure}
use Rattle.cap_closing.specs.Closing.{taken, cap_corners, cap_facets, own_facets, closed, DemandThree}
use Rattle.caps.specs.Operation.{is_positive, unchanged, surface, pool, caps_result, Closes}

module _ (pool : Pool) (boundary : List OpenEdge) (caps : List Cap) (positive : Bool) (mesh : Mesh) where
  pub closed_meets : (chosen : List Bool) → Selects boundary (outward_caps pool caps) chosen → DemandThree pool boundary caps positive mesh (closed pool caps positive mesh chosen)
  unfolding closed
  closed_meets chosen s =
      let ts = taken positive chosen (outward_caps pool caps) in
      record { chosen = chosen; selects = s; points = refl; facets = refl }

  -- the mesh is the computed one
  pub demand_decides : (out : Mesh) → DemandThree pool boundary caps positive mesh out → out ≡ closed pool caps positive mesh (selected boundary (outward_caps pool caps))
  unfolding closed
  demand_decides out d =
      let e = selects_unique boundary (outward_caps pool caps) d.chosen (selected boundary (outward_caps pool caps)) d.selects
      (selected_selects boundary (outward_caps pool caps)) in
      subst (λ (c : List Bool). out ≡ closed pool caps positive mesh c) e
      (same_mesh out d.chosen d.points
      (d.facets ∙ ap (λ (points : List Point). own_facets positive mesh.facets
      ++ cap_facets points (cap_corners pool (length mesh.points) (taken positive d.chosen (outward_caps pool caps)))) d.points))
    where
      same_mesh : (out : Mesh) (chosen : List Bool) → out.points ≡ (closed pool caps positive mesh chosen).points → out.facets ≡ (closed pool caps positive mesh chosen).facets
          → out ≡ closed pool caps positive mesh chosen
      same_mesh out chosen p q = λ i. record { points = p i; facets = q i }

module _ (vs : List Float) (fs cap_list : List ℕ) (q : Asked) (mode : BoundaryClosure) where
  abbrev result : Mesh
  result = caps_result vs fs cap_list q mode

  abbrev Demand : Mesh → Type 0
  Demand out =
      DemandThree (pool vs fs q) (surface vs fs q).edges (caps_of cap_list) (is_positive mode) (mesh_of vs fs) out

  pub result_meets : unchanged vs fs cap_list q mode ≡ false → Demand result
  unfolding caps_result
  result_meets e =
      let p = pool vs fs q in
      let s = (surface vs fs q).edges in
      let c = caps_of cap_list in
      subst (λ (b : Bool). Demand (cond b (mesh_of vs fs) (closed p c (is_positive mode) (mesh_of vs fs) (selected s (outward_caps p c))))) (sym e)
      (closed_meets p s c (is_positive mode) (mesh_of vs fs) (selected s (outward_caps p c)) (selected_selects s (outward_caps p c)))

  -- what a call that is not turned down tells and leaves in its outputs is what demand 3 says
  pub closes : (ts : List Test) (reply : List ℕ) (v v' : List Float) (f f' : List ℕ) → Answer ts (mesh_outputs result v v' f f') reply → get_or reply 0 0 ≡ 0
      → unchanged vs fs cap_list q mode ≡ false → Closes vs fs cap_list q mode reply v v' f f'
  closes ts reply v v' f f' a h e =
      let d = answer_done ts (mesh_outputs result v v' f f') reply a h in
      record { out = result; demand = result_meets e; lengths = d.0; vertices = d.1.0; facets = d.1.1.0 }
