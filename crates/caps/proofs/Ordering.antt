-- Laws of the operation's order: each answer of an inner function, with the tests in front of it. Assumes nothing.
--   no_ends_left, ends_left             "if no open edge keeps two ends"
--   tests_are, closed_is                tests 10 and 11 and the closed mesh, of what stands in the room
--   no_ends, ends_refused, ends_closed  behind test 9
--   edges_refused, edges_passed         tests 8 and 9
--   front_refused, handed_back, gone_on   tests 1 to 7, and the first point at which the mesh comes back
--   over_open, over_none, over_neither  when that is
--   capped                              the work room cleared
use Prim.Native.Nat.{ℕ, ◌*◌, ◌/◌, ◌≤◌}
use native.Mathlib.Omega.{arith}
use mathlib.Core.Bool.{Bool, true, false, cond, ◌||◌}
use mathlib.Core.List.{List, [], ◌++◌}
use mathlib.Core.Path.{◌≡◌, refl, sym, ap, subst, ◌∙◌}
use borrow.Author.Tests.{eq-eqb, ne_eqb}
use lib.ListN.{length, replicate}
use lib.Ieee.{Float}
use Rattle.lists.specs.Regions.{Above}
use Rattle.lists.proofs.Bools.{cond_true, cond_false, or_stop, or_next}
use Rattle.geometry.specs.Meshes.{Mesh, mesh_of}
use Rattle.refusals.specs.declared.refusal.Refusal.{Refusal}
use Rattle.std.specs.Prelude.{Result, Err}
use Rattle.refusals.specs.Refusals.{documented_reply, Test, first_refusal, Passes, unless}
use Rattle.refusals.specs.Answers.{mesh_outputs, Answer}
use Rattle.refusals.proofs.Refusals.{none_left, row_passed, row_refused}
use Rattle.refusals.proofs.Reports.{reply_zero}
use Rattle.input_tests.specs.Front.{limits}
use Rattle.candidate_pool.specs.Offsets.{open_edges_at}
use Rattle.refusals.proofs.Answers.{refused, after, behind, answered}
use Rattle.candidate_pool.specs.Pool.{by_key}
use Rattle.candidate_pool.specs.Standing.{pool_at}
use Rattle.candidate_edges.specs.Surface.{edge_surface}
use Rattle.candidate_surface.specs.declared.asked.Asked.{Asked}
use Rattle.candidate_surface.specs.Candidates.{candidates, no_facet, no_two_ends}
use Rattle.closure_tests.specs.Tests.{edge_tests}
use Rattle.candidate_surface.specs.Steps.{Completed}
use Rattle.cap_triangles.specs.Selection.{caps_of}
use Rattle.cap_triangles.specs.Room.{turned_at, Pooled}
use Rattle.cap_triangles.proofs.Kept.{pool_kept, edges_kept}
use Rattle.caps.specs.declared.mode.BoundaryClosure.{BoundaryClosure}
use Rattle.caps.specs.Operation.{leaves_open, is_positive, supplied_tests, surface, pool, cap_tests, passed_over, caps_tests, caps_result, Capped}
use Rattle.caps.specs.Steps.{edges_in, closed_of, closed_mesh, surface_mesh}
use Rattle.caps.proofs.Demands.{closes}

module _ (vs : List Float) (fs cap_list : List ℕ) (q : Asked) (mode : BoundaryClosure) where
  abbrev mesh : Mesh
  mesh = mesh_of vs fs

  abbrev none : Bool
  none = no_two_ends vs fs q

  abbrev tests : List Test
  tests = cap_tests vs fs q cap_list

  abbrev closing : Mesh
  closing =
      closed_of (pool vs fs q) (caps_of cap_list) (surface vs fs q).edges (is_positive mode) mesh

  abbrev made : Mesh
  made = surface_mesh vs fs cap_list q mode

  abbrev result : Mesh
  result = caps_result vs fs cap_list q mode

  abbrev over : Bool
  over = passed_over vs fs cap_list q mode

  -- ---- what stands in the room

  module _ (listed : ℕ) (el : listed ≡ length (edge_surface q.extents q.eps (by_key q.eps) mesh).edges) where
    pub no_ends_left : listed ≡ 0 → none ≡ true
    unfolding no_two_ends
    no_ends_left e = eq-eqb (length (edge_surface q.extents q.eps (by_key q.eps) mesh).edges) 0 (sym el ∙ e)

    pub ends_left : (listed ≡ 0 → ⊥) → none ≡ false
    unfolding no_two_ends
    ends_left g = ne_eqb (length (edge_surface q.extents q.eps (by_key q.eps) mesh).edges) 0 (λ e. g (el ∙ e))

  module _ (n k : ℕ) (w : List ℕ) (D : Completed vs fs q n k w) where
    pub tests_are : supplied_tests (pool_at n w) (caps_of cap_list) (edges_in n (length fs / 3) k w) ≡ tests
    unfolding cap_tests surface candidates
    tests_are = λ t. supplied_tests (D.pool t) (caps_of cap_list) (D.edges t)

    -- once the tests have passed
    module _ (w' : List ℕ) (P : Pooled n w) (few : k ≤ 3 * (length fs / 3)) (A : Above (turned_at n (length fs / 3)) w w') where
      pub closed_is : (positive : Bool) → positive ≡ is_positive mode → closed_mesh vs fs cap_list n k positive w' ≡ closing
      unfolding surface candidates
      closed_is positive e =
          let p = pool_kept (turned_at n (length fs / 3)) w w' A n P (omega arith) ∙ D.pool in
          let g = edges_kept (turned_at n (length fs / 3)) w w' A (open_edges_at n (length fs / 3)) k (omega (arith, few)) ∙ D.edges in
          λ t. closed_of (p t) (caps_of cap_list) (g t) (e t) mesh

  abbrev behind_nine : List Test
  behind_nine = unless none tests

  abbrev edges : List Test
  edges = edge_tests vs fs q

  module _ (v v' : List Float) (f f' : List ℕ) (x : Result (List ℕ) Refusal) where
    abbrev Told : List Test → Mesh → Type 0
    Told ts m = Answer ts (mesh_outputs m v v' f f') (documented_reply x)

    -- ---- behind test 9

    pub no_ends : none ≡ true → Told [] mesh → Told behind_nine made
    no_ends h d =
        let e : made ≡ mesh = cond_true none mesh closing mesh h refl in
        let t : behind_nine ≡ [] = cond_true none [] tests [] h refl in
        behind behind_nine (mesh_outputs made v v' f f') (documented_reply x) (ap first_refusal t ∙ none_left) (subst (Told []) (sym e) d)

    pub ends_closed : none ≡ false → Passes tests → (m : Mesh) → m ≡ closing → Told [] m → Told behind_nine made
    ends_closed h e m g d =
        behind behind_nine (mesh_outputs made v v' f f') (documented_reply x) (ap first_refusal (cond_false none [] tests tests h refl) ∙ e)
        (subst (Told []) (g ∙ sym (cond_false none mesh closing closing h refl)) d)

    -- ---- tests 8 and 9

    pub edges_passed : Passes edges → Told behind_nine made → Told (edges ++ behind_nine) made
    edges_passed e d = after edges behind_nine (mesh_outputs made v v' f f') (documented_reply x) e d

    -- ---- tests 1 to 7

    module _ (front : List Test) (e : Passes front) where
      abbrev inner : List Test
      inner = unless over (edges ++ behind_nine)

      pub handed_back : over ≡ true → Told [] mesh → Told (front ++ inner) result
      unfolding caps_result
      handed_back h d =
          let g : result ≡ mesh = cond_true (over || none) mesh closing mesh (or_stop over none h) refl in
          let t : inner ≡ [] = cond_true over [] (edges ++ behind_nine) [] h refl in
          behind (front ++ inner) (mesh_outputs result v v' f f') (documented_reply x) (row_passed front inner e ∙ ap first_refusal t ∙ none_left) (subst (Told []) (sym g) d)

      pub gone_on : over ≡ false → Told (edges ++ behind_nine) made → Told (front ++ inner) result
      unfolding caps_result
      gone_on h d =
          let g : result ≡ made = ap (λ (b : Bool). cond b mesh closing) (or_next over none none h refl) in
          let t : inner ≡ edges ++ behind_nine = cond_false over [] (edges ++ behind_nine) (edges ++ behind_nine) h refl in
          let a = after front (edges ++ behind_nine) (mesh_outputs made v v' f f') (documented_reply x) e d in
          let b = subst (λ (ts : List Test). Told (front ++ ts) made) (sym t) a in
          subst (Told (front ++ inner)) (sym g) b

  -- ---- a test refuses, and no output is touched

  module _ (v : List Float) (f : List ℕ) (x : Refusal) where
    abbrev Down : List Test → Mesh → Type 0
    Down ts m = Answer ts (mesh_outputs m v v f f) (documented_reply (Err x))

    pub ends_refused : none ≡ false → first_refusal tests ≡ Err x → Down behind_nine made
    ends_refused h e =
        refused behind_nine (mesh_outputs made v v f f) x (ap first_refusal (cond_false none [] tests tests h refl) ∙ e) (refl, (refl, tt))

    pub edges_refused : first_refusal edges ≡ Err x → Down (edges ++ behind_nine) made
    edges_refused e = refused (edges ++ behind_nine) (mesh_outputs made v v f f) x (row_refused edges behind_nine x e) (refl, (refl, tt))

    pub front_refused : (front : List Test) → first_refusal front ≡ Err x → Down (front ++ unless over (edges ++ behind_nine)) result
    front_refused front e =
        let inner = unless over (edges ++ behind_nine) in
        refused (front ++ inner) (mesh_outputs result v v f f) x (row_refused front inner x e) (refl, (refl, tt))

  -- ---- when the mesh comes back unchanged

  pub over_open : leaves_open mode ≡ true → over ≡ true
  over_open h = or_stop (leaves_open mode) (no_facet fs) h

  pub over_none : leaves_open mode ≡ false → length fs ≡ 0 → over ≡ true
  over_none h e = or_next (leaves_open mode) (no_facet fs) true h (eq-eqb (length fs) 0 e)

  pub over_neither : leaves_open mode ≡ false → (length fs ≡ 0 → ⊥) → over ≡ false
  over_neither h e = or_next (leaves_open mode) (no_facet fs) false h (ne_eqb (length fs) 0 e)

  -- ---- the work room cleared

  pub capped : (ceiling : ℕ) (x : Result (List ℕ) Refusal) (w u w' : List ℕ) (v v' : List Float) (f f' : List ℕ)
      → Answer (caps_tests vs fs cap_list q mode (limits ceiling (length w))) (mesh_outputs result v v' f f') (documented_reply x)
      → length u ≡ length w → w' ≡ replicate (length u) 0 → Capped vs fs cap_list q mode ceiling x w w' v v' f f'
  capped ceiling x w u w' v v' f f' d h z =
      let ts = caps_tests vs fs cap_list q mode (limits ceiling (length w)) in
      record {
        answered = answered ts (mesh_outputs result v v' f f') w u w' (documented_reply x) d h z;
        rule = λ t. closes vs fs cap_list q mode ts (documented_reply x) v v' f f' d (reply_zero x t);
      }
