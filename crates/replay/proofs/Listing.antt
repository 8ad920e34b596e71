-- Laws of the operations that write lists of words: from a call, compared with a record, to the definitions. Assumes nothing.
--   boundary_decides      a call of boundary components as reported
--   candidates_decides    a call of candidates as reported
use Prim.Native.Nat.{ℕ}
use mathlib.Core.Path.{◌≡◌, sym, ◌∙◌, transport}
use mathlib.Core.Bool.{Bool}
use mathlib.Core.List.{List, ◌∷◌}
use lib.ListN.{length, get_or}
use lib.Ieee.{Float}
use Rattle.geometry.specs.declared.aabb.AABB.{AABB}
use Rattle.geometry.specs.Triangles.{threes}
use Rattle.refusals.specs.Answers.{Output, reply_with, Called}
use Rattle.input_tests.specs.Front.{limits}
use Rattle.candidate_surface.specs.Asked.{asked}
use Rattle.candidate_outputs.specs.Outputs.{candidate_outputs}
use Rattle.boundary_closure.specs.Operation.{candidates_tests, candidates_result}
use Rattle.boundary_components.specs.Boundary.{boundary_tests, boundary_outputs}
use Rattle.lists.specs.Lists.{Decides}
use Rattle.replay.specs.Contents.{old_words}
use Rattle.replay.specs.Agreement.{FreshThree, FreshWords, ThreeListed, FourListed, CandidatesStored, BoundaryStored}
use Rattle.replay.specs.Agreement.{box_in, eps_in, resolution_in, asked_in, limits_in, vertex_count_in, reported}
use Rattle.replay.proofs.Deciding.{ends}
use Rattle.replay.proofs.Agreeing.{as_reported, zero_each}

-- a call with the fresh outputs e, c and i
module _ (stored w w' e e' c c' i i' fs : List ℕ) (number : ℕ) (values : List ℕ)
    (fresh : FreshThree stored w e c i)
    (call : Called (boundary_tests (vertex_count_in stored) fs (limits (get_or stored 24 0) (length w))) (boundary_outputs (threes fs) e e' c c' i i') w w' number values)
  where
    abbrev listed : List Output
    listed = boundary_outputs (threes fs) (old_words (get_or stored 15 0)) e' (old_words (get_or stored 16 0)) c' (old_words (get_or stored 17 0)) i'

    there : Called (boundary_tests (vertex_count_in stored) fs (limits_in stored)) listed w w' number values
    there =
        transport
        (λ t.
        Called (boundary_tests (vertex_count_in stored) fs (limits (get_or stored 24 0) (fresh.lent t)))
        (boundary_outputs (threes fs) (fresh.first t) e' (fresh.second t) c' (fresh.third t) i') w w' number values) call

    told : number ∷ values ≡ reported (reply_with (boundary_tests (vertex_count_in stored) fs (limits_in stored)) listed)
    told = as_reported (reply_with (boundary_tests (vertex_count_in stored) fs (limits_in stored)) listed) number values there.reported

    pub boundary_decides : (r : Bool) → Decides (ThreeListed stored (number ∷ values) e' c' i' w') r → Decides (BoundaryStored stored fs) r
    boundary_decides r d =
        ends (BoundaryStored stored fs) d
        (λ a.
        record {
          replied = sym told ∙ a.replied;
          outputs = (sym a.first ∙ there.settled.0, (sym a.second ∙ there.settled.1.0, (sym a.third ∙ there.settled.1.1.0, tt)));
        })
        (λ s.
        record {
          replied = told ∙ s.replied;
          cleared = zero_each w w' there.work;
          first = there.settled.0 ∙ sym s.outputs.0;
          second = there.settled.1.0 ∙ sym s.outputs.1.0;
          third = there.settled.1.1.0 ∙ sym s.outputs.1.1.0;
        })

-- a call with the fresh outputs c, l, k and e
module _ (stored w w' c c' l l' k k' e e' : List ℕ) (vs : List Float) (fs : List ℕ) {box : AABB} {eps resolution : Float} (number : ℕ) (values : List ℕ)
    (fresh : FreshWords stored w c l k e)
    (same_box : box ≡ box_in stored)
    (same-eps : eps ≡ eps_in stored)
    (same-resolution : resolution ≡ resolution_in stored)
    (call : Called (candidates_tests vs fs (asked box eps resolution) (limits (get_or stored 24 0) (length w)))
    (candidate_outputs (candidates_result vs fs (asked box eps resolution)) c c' l l' k k' e e') w w' number values)
  where
    abbrev four : List Output
    four =
        candidate_outputs (candidates_result vs fs (asked_in stored)) (old_words (get_or stored 15 0)) c' (old_words (get_or stored 16 0)) l' (old_words (get_or stored 17 0)) k'
        (old_words (get_or stored 18 0)) e'

    there_four : Called (candidates_tests vs fs (asked_in stored) (limits_in stored)) four w w' number values
    there_four =
        transport
        (λ t.
        Called (candidates_tests vs fs (asked (same_box t) (same-eps t) (same-resolution t)) (limits (get_or stored 24 0) (fresh.three.lent t)))
        (candidate_outputs (candidates_result vs fs (asked (same_box t) (same-eps t) (same-resolution t))) (fresh.three.first t) c' (fresh.three.second t) l'
        (fresh.three.third t) k' (fresh.fourth t) e') w w' number values) call

    told_four : number ∷ values ≡ reported (reply_with (candidates_tests vs fs (asked_in stored) (limits_in stored)) four)
    told_four = as_reported (reply_with (candidates_tests vs fs (asked_in stored) (limits_in stored)) four) number values there_four.reported

    pub candidates_decides : (r : Bool) → Decides (FourListed stored (number ∷ values) c' l' k' e' w') r → Decides (CandidatesStored stored vs fs) r
    candidates_decides r d =
        ends (CandidatesStored stored vs fs) d
        (λ a.
        record {
          replied = sym told_four ∙ a.three.replied;
          outputs = (
            sym a.three.first ∙ there_four.settled.0,
            (
              sym a.three.second ∙ there_four.settled.1.0,
              (sym a.three.third ∙ there_four.settled.1.1.0, (sym a.fourth ∙ there_four.settled.1.1.1.0, tt)),
            ),
          );
        })
        (λ s.
        record {
          three = record {
            replied = told_four ∙ s.replied;
            cleared = zero_each w w' there_four.work;
            first = there_four.settled.0 ∙ sym s.outputs.0;
            second = there_four.settled.1.0 ∙ sym s.outputs.1.0;
            third = there_four.settled.1.1.0 ∙ sym s.outputs.1.1.0;
          };
          fourth = there_four.settled.1.1.1.0 ∙ sym s.outputs.1.1.1.0;
        })
