-- Laws that lead from a call, compared with a record, to the definitions: one for every operation that writes a mesh, and tolerance. Assumes nothing.
--   fresh_vertices, fresh_facets    the lengths of fresh outputs;   fresh_room   what makes them so;   outputs_within   where they lie
--   same_box                        a box from the doubles of a record
--   tolerance_decides               a reported tolerance
--   MeshReported, mesh_called       what a call promises
--   answer_decides                  a call as reported
--   clip_reply_lem, clip_result_lem, clean_reply_lem, clean_result_lem, caps_reply_lem, caps_result_lem   from the values of a call to those of the record
--   lent_caps, lists_decides        the cap list as lent, and a request of the lists as read
--   as_reported, zero_each, length_table   a reply as reported, work room that ends zero, the length of a table
--   nameless                        a record of no operation
use Prim.Native.Nat.{ℕ, ◌+◌, ◌-◌, ◌≤◌, ◌<◌}
use mathlib.Core.Path.{◌≡◌, sym, ap, ap₂, ◌∙◌, subst}
use mathlib.Core.Bool.{Bool}
use mathlib.Core.List.{List, [], ◌∷◌}
use native.Mathlib.Omega.{arith}
use lib.ListN.{length, get_or, take, drop, length-map, length-replicate, get_or-replicate}
use lib.Ieee.{Float}
use Rattle.geometry.specs.declared.aabb.AABB.{AABB}
use Rattle.geometry.specs.Triangles.{flat}
use Rattle.geometry.specs.Meshes.{Mesh, coordinates, mesh_lengths}
use Rattle.lists.specs.Lists.{up_to, Decides}
use Rattle.lists.proofs.Places.{length_up}
use Rattle.refusals.specs.Refusals.{Test, settle, Zeroed}
use Rattle.refusals.specs.Answers.{mesh_outputs, reply_in, Called}
use Rattle.refusals.specs.Reports.{Reported}
use Rattle.input_tests.specs.Front.{Limits, limits}
use Rattle.tolerance.specs.Tolerance.{tolerance_reply}
use Rattle.aabb_clipping.specs.Clip.{clip_asked, clip_result}
use Rattle.mesh_cleanup.specs.Clean.{clean_asked, clean_result}
use Rattle.candidate_surface.specs.Asked.{asked}
use Rattle.caps.specs.Operation.{caps_result}
use Rattle.caps.specs.Modes.{mode_of}
use Rattle.yongpham.specs.Calls.{box_of}
use Rattle.replay.specs.Words.{Everywhere}
use Rattle.replay.specs.Layout.{stored_reply, outputs_from, Laid}
use Rattle.replay.specs.Contents.{table, old_doubles, old_words, old_double, doubles_in, numbers_in}
use Rattle.replay.specs.Agreement.{SameDoubles, SameWords, AgreesWith, Fresh, ResultStored, clip, clean, caps, candidates, boundary, AnswerStored, mesh}
use Rattle.replay.specs.Agreement.{listing, ListsStored, PlainDoubles, ToleranceAgrees, Agrees, tolerance, lists, double_at, box_in, eps_in, resolution_in}
use Rattle.replay.specs.Agreement.{clip_asked_in, clean_asked_in, limits_in, asked_in, mode_in, caps_in, outputs_in, reported, clip_reply, clean_reply}
use Rattle.replay.specs.Agreement.{caps_reply}
use Rattle.replay.specs.Operations.{number_of}
use Rattle.replay.specs.declared.operation.Operation.{Operation}
use Rattle.replay.specs.declared.operation.Operation.TheVariants.{Tolerance, Clip, Clean, Candidates, Caps, BoundaryComponents}
use Rattle.replay.proofs.Deciding.{ends}
use Rattle.replay.proofs.Filling.{counted}

pub length_table : {A : Type 0} (f : ℕ → A) (n : ℕ) → length (table f n) ≡ n
length_table f n = length-map (up_to n) f ∙ length_up 0 n

module _ (stored w : List ℕ) (v : List Float) (f : List ℕ) (h : Fresh stored w v f) where
  pub fresh_vertices : length v ≡ get_or stored 15 0
  fresh_vertices = ap length h.coordinates ∙ length_table old_double (get_or stored 15 0)

  pub fresh_facets : length f ≡ get_or stored 16 0
  fresh_facets = ap length h.numbers ∙ length_table (λ k. 3000000000 + k) (get_or stored 16 0)

-- work room and outputs as they are before a call, each as long as the record says
pub fresh_room : {stored w : List ℕ} {v : List Float} {f : List ℕ} {n : ℕ} → length w ≡ get_or stored 14 0 → v ≡ old_doubles n → n ≡ get_or stored 15 0
    → length f ≡ get_or stored 16 0 → ((k x : ℕ) → k < length f → get_or f k x ≡ 3000000000 + k) → Fresh stored w v f
fresh_room {f = f} lent doubles n long each = record { lent = lent; coordinates = doubles ∙ ap old_doubles n; numbers = counted f _ long each }

-- the outputs after a call, which are as long as before, lie within the record
pub outputs_within : (stored w : List ℕ) (v v' : List Float) (f f' : List ℕ) → Laid stored → Fresh stored w v f → length v' ≡ length v → length f' ≡ length f
    → (32 ≤ length stored) × (outputs_from stored + length v' + length f' ≤ length stored)
outputs_within stored w v v' f f' l h e k = (l.head, omega (arith, fresh_vertices stored w v f h, fresh_facets stored w v f h))

pub as_reported : (reply : List ℕ) (number : ℕ) (values : List ℕ) → Reported reply number values → number ∷ values ≡ reported reply
as_reported reply number values h = ap (λ (n : ℕ). n ∷ values) h.number ∙ ap (λ (l : List ℕ). get_or reply 0 0 ∷ l) h.words

pub zero_each : (w w' : List ℕ) → Zeroed w w' → Everywhere (λ k. get_or w' k 0 ≡ 0) (length w')
zero_each w w' z k l =
    let n : length w' ≡ length w = ap length z.ends ∙ length-replicate {A = ℕ} (length w) 0 in
    ap (λ (x : List ℕ). get_or x k 0) z.ends ∙ get_or-replicate (length w) k 0 0 (omega arith)

pub same_box : (stored : List ℕ) {a b c d e f : Float} → a ≡ double_at stored 6 → b ≡ double_at stored 7 → c ≡ double_at stored 8
    → d ≡ double_at stored 9 → e ≡ double_at stored 10 → f ≡ double_at stored 11 → box_of a b c d e f ≡ box_in stored
same_box stored {a} {b} {c} {d} {e} {f} p q r s t u = cc

pub tolerance_decides : (stored : List ℕ) (box : AABB) (number : ℕ) (values : List ℕ) (r : Bool) → length stored ≡ 32 → PlainDoubles stored 6 6 → box ≡ box_in stored
    → Reported (tolerance_reply box) number values → Decides (number ∷ values ≡ stored_reply stored) r → Decides (ToleranceAgrees stored) r
tolerance_decides stored box number values r n h e k d =
    let same : number ∷ values ≡ reported (tolerance_reply (box_in stored)) = as_reported (tolerance_reply box) number values k ∙ ap (λ (b : AABB). reported (tolerance_reply b)) e in
    ends (ToleranceAgrees stored) d (λ p. record { whole = n; box = h; answer = sym same ∙ p }) (λ a. same ∙ a.answer)

-- what a call from C promises, by its reply and its mesh
pub record MeshReported (reply : List ℕ) (result : Mesh) (number : ℕ) (values w w' : List ℕ) (v v' : List Float) (f f' : List ℕ) : Type 0 where
  pub told : Reported reply number values
  pub vertices : v' ≡ settle reply (coordinates result.points) v
  pub facets : f' ≡ settle reply (flat result.facets) f
  pub work : Zeroed w w'

pub mesh_called : (ts : List Test) (result : Mesh) (number : ℕ) (values w w' : List ℕ) (v v' : List Float) (f f' : List ℕ) → Called ts (mesh_outputs result v v' f f') w w' number
    values
    → MeshReported (reply_in ts (mesh_lengths result) (length v ∷ length f ∷ [])) result number values w w' v v' f f'
mesh_called ts result number values w w' v v' f f' c =
    record { told = c.reported; vertices = c.settled.0; facets = c.settled.1.0; work = c.work }

-- A call as reported: its reply and result are the record's.
module _ (stored reply reply₀ : List ℕ) (result result₀ : Mesh) (number : ℕ) (values w w' : List ℕ) (v v' : List Float) (f f' : List ℕ)
    (fresh : Fresh stored w v f)
    (call : MeshReported reply₀ result₀ number values w w' v v' f f')
    (same_reply : reply₀ ≡ reply)
    (same_result : result₀ ≡ result)
    (long : length v' ≡ length v)
  where
    there : MeshReported reply result number values w w' v v' f f'
    there =
        subst (λ (l : List ℕ). MeshReported l result number values w w' v v' f f') same_reply
        (subst (λ (m : Mesh). MeshReported reply₀ m number values w w' v v' f f') same_result call)

    ends_v : v' ≡ settle reply (coordinates result.points) (old_doubles (get_or stored 15 0))
    ends_v = there.vertices ∙ ap (settle reply (coordinates result.points)) fresh.coordinates

    ends_f : f' ≡ settle reply (flat result.facets) (old_words (get_or stored 16 0))
    ends_f = there.facets ∙ ap (settle reply (flat result.facets)) fresh.numbers

    at_f : outputs_from stored + length v' ≡ outputs_from stored + get_or stored 15 0
    at_f = ap (λ (n : ℕ). outputs_from stored + n) (long ∙ fresh_vertices stored w v f fresh)

    pub answer_decides : (r : Bool) → Decides (AgreesWith stored (number ∷ values) v' f' w') r → Decides (ResultStored stored reply result) r
    answer_decides r d =
        ends (ResultStored stored reply result) d
        (λ a.
        record {
          replied = sym (as_reported reply number values there.told) ∙ a.replied;
          coords = subst (λ (l : List Float). SameDoubles stored (outputs_from stored) l) ends_v a.coordinates;
          numbers =
              subst (λ (l : List ℕ). SameWords stored (outputs_from stored + get_or stored 15 0) l) ends_f
              (subst (λ (n : ℕ). SameWords stored n f') at_f a.numbers);
        })
        (λ s.
        record {
          replied = as_reported reply number values there.told ∙ s.replied;
          coordinates = subst (λ (l : List Float). SameDoubles stored (outputs_from stored) l) (sym ends_v) s.coords;
          numbers =
              subst (λ (n : ℕ). SameWords stored n f') (sym at_f)
              (subst (λ (l : List ℕ). SameWords stored (outputs_from stored + get_or stored 15 0) l) (sym ends_f) s.numbers);
          cleared = zero_each w w' there.work;
        })

module _ (stored w : List ℕ) (v : List Float) (f : List ℕ) (fresh : Fresh stored w v f) where
  abbrev lent_under : Limits
  lent_under = limits (get_or stored 24 0) (length w)

  -- the lengths that a reply is computed from
  same_lengths : (reply : Limits → List ℕ → List ℕ) → reply lent_under (length v ∷ length f ∷ []) ≡ reply (limits_in stored) (outputs_in stored)
  same_lengths reply =
      ap (λ (n : ℕ). reply (limits (get_or stored 24 0) n) (length v ∷ length f ∷ [])) fresh.lent
      ∙ ap₂ (λ (n m : ℕ). reply (limits_in stored) (n ∷ m ∷ [])) (fresh_vertices stored w v f fresh) (fresh_facets stored w v f fresh)

  pub clip_reply_lem : (vs : List Float) (fs : List ℕ) {box : AABB} {eps : Float} → box ≡ box_in stored → eps ≡ eps_in stored
      → clip_reply vs fs (clip_asked box eps) lent_under (length v ∷ length f ∷ []) ≡ clip_reply vs fs (clip_asked_in stored) (limits_in stored) (outputs_in stored)
  clip_reply_lem vs fs b e =
      (λ t. clip_reply vs fs (clip_asked (b t) (e t)) lent_under (length v ∷ length f ∷ [])) ∙ same_lengths (clip_reply vs fs (clip_asked_in stored))

  pub clean_reply_lem : (vs : List Float) (fs : List ℕ) {eps : Float} → eps ≡ eps_in stored
      → clean_reply vs fs (clean_asked eps) lent_under (length v ∷ length f ∷ []) ≡ clean_reply vs fs (clean_asked_in stored) (limits_in stored) (outputs_in stored)
  clean_reply_lem vs fs e =
      (λ t. clean_reply vs fs (clean_asked (e t)) lent_under (length v ∷ length f ∷ [])) ∙ same_lengths (clean_reply vs fs (clean_asked_in stored))

  pub caps_reply_lem : (vs : List Float) (fs : List ℕ) {cap_list : List ℕ} {box : AABB} {eps resolution : Float} {mode : ℕ}
      → cap_list ≡ caps_in stored → box ≡ box_in stored → eps ≡ eps_in stored → resolution ≡ resolution_in stored → mode ≡ mode_in stored
      → caps_reply vs fs cap_list (asked box eps resolution) mode lent_under (length v ∷ length f ∷ [])
      ≡ caps_reply vs fs (caps_in stored) (asked_in stored) (mode_in stored) (limits_in stored) (outputs_in stored)
  caps_reply_lem vs fs c b e r m =
      (λ t. caps_reply vs fs (c t) (asked (b t) (e t) (r t)) (m t) lent_under (length v ∷ length f ∷ []))
      ∙ same_lengths (caps_reply vs fs (caps_in stored) (asked_in stored) (mode_in stored))

pub clip_result_lem : (stored : List ℕ) (vs : List Float) (fs : List ℕ) {box : AABB} {eps : Float} → box ≡ box_in stored → eps ≡ eps_in stored
    → clip_result vs fs (clip_asked box eps) ≡ clip_result vs fs (clip_asked_in stored)
clip_result_lem stored vs fs b e = λ t. clip_result vs fs (clip_asked (b t) (e t))

pub clean_result_lem : (stored : List ℕ) (vs : List Float) (fs : List ℕ) {eps : Float} → eps ≡ eps_in stored
    → clean_result vs fs (clean_asked eps) ≡ clean_result vs fs (clean_asked_in stored)
clean_result_lem stored vs fs e = λ t. clean_result vs fs (clean_asked (e t))

pub caps_result_lem : (stored : List ℕ) (vs : List Float) (fs : List ℕ) {cap_list : List ℕ} {box : AABB} {eps resolution : Float} {mode : ℕ}
    → cap_list ≡ caps_in stored → box ≡ box_in stored → eps ≡ eps_in stored → resolution ≡ resolution_in stored → mode ≡ mode_in stored
    → caps_result vs fs cap_list (asked box eps resolution) (mode_of mode) ≡ caps_result vs fs (caps_in stored) (asked_in stored) (mode_of (mode_in stored))
caps_result_lem stored vs fs c b e r m = λ t. caps_result vs fs (c t) (asked (b t) (e t) (r t)) (mode_of (m t))

-- the cap list, lent from behind the facet numbers to its end
pub lent_caps : (stored : List ℕ)
    → take (32 + get_or stored 2 0 + get_or stored 3 0 + get_or stored 4 0 - (32 + get_or stored 2 0 + get_or stored 3 0)) (drop (32 + get_or stored 2 0 + get_or stored 3 0) stored) ≡ caps_in
    stored
lent_caps stored =
    let n : 32 + get_or stored 2 0 + get_or stored 3 0 + get_or stored 4 0 - (32 + get_or stored 2 0 + get_or stored 3 0) ≡ get_or stored 4 0 = omega arith in
    ap (λ (x : ℕ). take x (drop (32 + get_or stored 2 0 + get_or stored 3 0) stored)) n

-- lists as read: v of n coordinates, then f of m facet numbers
pub lists_decides : (stored : List ℕ) (v : List Float) (f : List ℕ) (n k m : ℕ) (r : Bool) → n ≡ get_or stored 2 0 → k ≡ get_or stored 2 0 → m ≡ get_or stored 3 0
    → v ≡ doubles_in stored 32 n → f ≡ numbers_in stored (32 + k) m → Decides (AnswerStored stored v f) r → Decides (ListsStored stored) r
lists_decides stored v f n k m r a b c p q d =
    subst (λ (l : List Float). Decides (AnswerStored stored l (numbers_in stored (32 + get_or stored 2 0) (get_or stored 3 0))) r)
    (p ∙ ap (doubles_in stored 32) a)
    (subst (λ (l : List ℕ). Decides (AnswerStored stored v l) r) (q ∙ ap₂ (λ (x y : ℕ). numbers_in stored (32 + x) y) b c) d)

-- ---- by operation

-- the record's number is no operation's
pub nameless : (stored : List ℕ) → ((o : Operation) → number_of o ≡ get_or stored 1 0 → ⊥) → Agrees stored → ⊥
nameless stored never (tolerance k t) = never Tolerance (sym k)
nameless stored never (lists l) = elim l.answer [
  | mesh (clip k s) ↦ never Clip (sym k)
  | mesh (clean k s) ↦ never Clean (sym k)
  | mesh (caps k s) ↦ never Caps (sym k)
  | listing (candidates k s) ↦ never Candidates (sym k)
  | listing (boundary k s) ↦ never BoundaryComponents (sym k)
]
