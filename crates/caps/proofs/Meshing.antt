-- Laws of the steps that close a mesh: what stands in the room after the last is the definition's mesh. Assumes nothing.
--   chosen_ready, chosen_words   what is left for the closing, once the selection is made
--   deliverable, standing_is     the closed mesh can be written out, and it is the definition's         answered   with test 12
use Prim.Native.Nat.{ℕ, ◌/◌}
use native.Mathlib.Omega.{arith}
use mathlib.Core.Bool.{Bool}
use mathlib.Core.Path.{◌≡◌, sym, ap, subst, ◌∙◌}
use mathlib.Core.List.{List, [], ◌++◌}
use lib.ListN.{length}
use lib.Ieee.{Float}
use Rattle.geometry.specs.Triangles.{threes}
use Rattle.geometry.specs.Meshes.{Mesh, mesh_of}
use Rattle.candidate_pool.specs.Offsets.{open_edges_at}
use Rattle.refusals.specs.Answers.{mesh_outputs, Answer}
use Rattle.candidate_pool.specs.Standing.{pool_at}
use Rattle.cap_triangles.specs.Selection.{caps_of, outward_caps, selected}
use Rattle.cap_triangles.specs.Room.{labels_at, closing_at, Pooled, TurnedReady}
use Rattle.cap_triangles.proofs.Kept.{pool_kept, pooled_kept, edges_kept, turned_kept}
use Rattle.cap_selection.specs.Chosen.{chosen_in, Chosen}
use Rattle.cap_closing.specs.Closing.{own_facets, closed}
use Rattle.cap_closing.specs.Entering.{MeshWords, Closed}
use Rattle.cap_outputs.specs.Written.{closed_mesh_in, Deliverable}
use Rattle.caps.specs.Steps.{edges_in, closed_mesh, Closable}
use Rattle.caps.proofs.Numbering.{words_kept}

module _ (vs : List Float) (fs cap_list : List ℕ) (n k : ℕ) (positive : Bool) (w : List ℕ) (D : Closable vs fs cap_list n k w) (w₁ : List ℕ)
    (C : Chosen n (length fs / 3) k cap_list w w₁) where
  abbrev nf : ℕ
  nf = length fs / 3

  abbrev nc : ℕ
  nc = length cap_list / 4

  pub chosen_ready : TurnedReady n nf cap_list w₁
  chosen_ready = turned_kept (labels_at n nf nc) w w₁ C.above n nf cap_list (omega arith) D.ready.ready

  pub chosen_words : MeshWords (length vs / 3) w₁
  chosen_words = words_kept (labels_at n nf nc) n (length vs / 3) w w₁ C.above (omega arith) D.ready.ready.supplied.pooled.few D.words

  pool_is : pool_at n w₁ ≡ pool_at n w
  pool_is = pool_kept (labels_at n nf nc) w w₁ C.above n D.ready.ready.supplied.pooled (omega arith)

  edges_is : edges_in n nf k w₁ ≡ edges_in n nf k w
  edges_is = let f = D.ready.edges in edges_kept (labels_at n nf nc) w w₁ C.above (open_edges_at n nf) k (omega (arith, f))

  chosen_is : chosen_in n nf nc w₁ ≡ selected (edges_in n nf k w) (outward_caps (pool_at n w) (caps_of cap_list))
  chosen_is = C.chosen ∙ (λ t. selected (edges_is t) (outward_caps (pool_is t) (caps_of cap_list)))

  module _ (left caps : ℕ) (w₂ : List ℕ) (K : Closed vs n nf cap_list positive left caps w₁ w₂) where
    pooled_last : Pooled n w₂
    pooled_last = pooled_kept (closing_at n nf nc) w₁ w₂ K.above n chosen_ready.supplied.pooled (omega arith)

    pub deliverable : Deliverable vs fs n nc left caps w₂
    deliverable =
        let s = chosen_ready.supplied in
        record {
          lists = D.lists;
          small = s.small;
          few_caps = s.caps;
          size = let z = s.size in let g = K.above.long in omega (arith, z, g);
          few = pooled_last.few;
          stored = pooled_last.stored;
          own = K.own;
          most = K.most;
          fresh = K.fresh;
          left_few = K.few;
          low = K.low;
          count = K.count ∙ sym (ap length K.facets);
        }

    pub standing_is : closed_mesh_in vs fs n nc positive left w₂ ≡ closed_mesh vs fs cap_list n k positive w
    unfolding closed
    standing_is =
        (λ t. record { points = sym K.points t; facets = own_facets positive (threes fs) ++ K.facets t })
        ∙ (λ t. closed (pool_is t) (caps_of cap_list) positive (mesh_of vs fs) (chosen_is t))

    pub answered : (v v' : List Float) (f f' : List ℕ) (reply : List ℕ) → Answer [] (mesh_outputs (closed_mesh_in vs fs n nc positive left w₂) v v' f f') reply
        → Answer [] (mesh_outputs (closed_mesh vs fs cap_list n k positive w) v v' f f') reply
    answered v v' f f' reply = subst (λ (m : Mesh). Answer [] (mesh_outputs m v v' f f') reply) standing_is
