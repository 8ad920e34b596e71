-- Laws of the last steps: what stands in the room is the definition's. Assumes nothing.
--   no_ends_left, ends_left   "if no open edge keeps two ends"
--   Made, made_of             once the constraints are in, the four results can be written out, and they are the definition's
use Prim.Native.Nat.{ℕ, ◌/◌, ◌≤◌}
use native.Mathlib.Omega.{arith}
use mathlib.Core.Bool.{true, false}
use mathlib.Core.Path.{◌≡◌, sym, ap, ◌∙◌}
use mathlib.Core.List.{List, flat_map}
use borrow.Author.Tests.{eq-eqb, ne_eqb}
use lib.ListN.{length}
use lib.Ieee.{Float}
use Rattle.geometry.specs.Boxes.{faces}
use Rattle.geometry.specs.Meshes.{mesh_of}
use Rattle.candidate_pool.specs.Offsets.{open_edges_at}
use Rattle.candidate_pool.specs.Pool.{by_key}
use Rattle.candidate_pool.specs.Standing.{edges_at}
use Rattle.candidate_pool.proofs.Frames.{pool_same}
use Rattle.candidate_pool.proofs.Edges.{edges_same}
use Rattle.candidate_edges.specs.Surface.{edge_surface}
use Rattle.candidate_edges.specs.Steps.{MeshFits}
use Rattle.candidate_constraints.specs.Constraints.{face_constraints}
use Rattle.candidate_constraints.specs.Steps.{Constrained}
use Rattle.candidate_surface.specs.Candidates.{candidates, no_two_ends}
use Rattle.candidate_surface.specs.declared.asked.Asked.{Asked}
use Rattle.candidate_surface.specs.Asked.{setting}
use Rattle.candidate_surface.specs.Steps.{Completed}
use Rattle.candidate_outputs.specs.Written.{candidates_standing, Readable}
use Rattle.candidate_outputs.proofs.Blocks.{words_same}

pub record Made (vs : List Float) (fs : List ℕ) (q : Asked) (n k listed total : ℕ) (w : List ℕ) : Type 0 where
  pub readable : Readable n (length fs / 3) k listed total w
  pub standing : candidates_standing n (length fs / 3) k total w ≡ candidates (setting q) (mesh_of vs fs)

module _ (vs : List Float) (fs : List ℕ) (q : Asked) (listed : ℕ) (el : listed ≡ length (edge_surface q.extents q.eps (by_key q.eps) (mesh_of vs fs)).edges) where
  pub no_ends_left : listed ≡ 0 → no_two_ends vs fs q ≡ true
  unfolding no_two_ends
  no_ends_left e = eq-eqb (length (edge_surface q.extents q.eps (by_key q.eps) (mesh_of vs fs)).edges) 0 (sym el ∙ e)

  pub ends_left : (listed ≡ 0 → ⊥) → no_two_ends vs fs q ≡ false
  unfolding no_two_ends
  ends_left f = ne_eqb (length (edge_surface q.extents q.eps (by_key q.eps) (mesh_of vs fs)).edges) 0 (λ e. f (el ∙ e))

  module _ (n k total : ℕ) (w w' : List ℕ) (M : MeshFits vs fs n w) (few : k ≤ length fs) (D : Completed vs fs q n k w)
      (K : Constrained q.extents q.eps n (length fs / 3) k total w w') where
    abbrev nf : ℕ
    nf = length fs / 3

    abbrev from : ℕ
    from = open_edges_at n nf

    edges_here : edges_at w' from k ≡ (edge_surface q.extents q.eps (by_key q.eps) (mesh_of vs fs)).edges
    edges_here = edges_same w w' from k (λ x h l. K.high x h) ∙ D.edges

    readable_here : Readable n nf k listed total w'
    readable_here =
        record {
          small = M.small;
          small_facets = M.few;
          size = let s = M.size in let l = K.long in omega (arith, s, l);
          few = let c = K.low 6 (omega arith) in let f = D.holds.table.few in omega (arith, c, f);
          words = words_same q.eps n w w' D.holds K.long (λ x h. K.low x (omega arith));
          short = λ f h. let s = D.holds.lengths f h in let e = K.low f (omega arith) in omega (arith, s, e);
          constraints = K.few;
          edges = let t = M.threes in omega (arith, t, few);
          faces_listed = el ∙ sym (ap length edges_here);
        }

    standing_is : candidates_standing n nf k total w' ≡ candidates (setting q) (mesh_of vs fs)
    unfolding candidates
    standing_is =
        let p = pool_same q.eps n w w' D.holds K.long (λ x h. K.low x (omega arith)) ∙ D.pool in
        let c = K.listed ∙ (λ t. flat_map (face_constraints q.extents q.eps (D.edges t) (D.pool t)) faces) in
        λ t. record { all = (p t).all; lists = (p t).lists; constraints = c t; edges = edges_here t }

    pub made_of : Made vs fs q n k listed total w'
    made_of = record { readable = readable_here; standing = standing_is }
