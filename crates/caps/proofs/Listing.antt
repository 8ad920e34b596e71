-- Laws of tests 10 and 11, and of what stands in the room once they have passed. Assumes nothing.
--   supplied            what the tests ask for, of candidates that stand in the room
--   bad_refused         10 refuses                     good_list      or does not
--   turned_ready        the triangles turned           numbered_ready, noted_ready   pairs numbered, and faces noted
--   missing_refused, all_passed   11
use Prim.Native.Nat.{ℕ, ◌*◌, ◌/◌, ◌≤◌, ◌<◌}
use native.Mathlib.Omega.{arith}
use mathlib.Core.Path.{◌≡◌, sym, ap, ◌∙◌, subst}
use mathlib.Core.List.{List, [], ◌∷◌}
use borrow.Author.Tests.{lt-ltb, le-ltb}
use lib.Dec.{ltb}
use lib.ListN.{length}
use lib.Ieee.{Float}
use Rattle.lists.specs.Lists.{up_to}
use Rattle.lists.specs.Regions.{Above}
use Rattle.lists.proofs.Members.{place_le}
use Rattle.lists.proofs.Places.{length_up}
use Rattle.lists.proofs.Regions.{above_less, above_more}
use Rattle.refusals.specs.declared.refusal.Refusal.{Refusal}
use Rattle.refusals.specs.declared.refusal.Refusal.TheVariants.{BadCap, MissingEdge}
use Rattle.std.specs.Prelude.{Result, Ok, Err}
use Rattle.refusals.specs.Refusals.{Test, first_refusal}
use Rattle.refusals.proofs.Refusals.{holds, passes, none_left}
use Rattle.candidate_pool.specs.OpenEdges.{OpenEdge}
use Rattle.candidate_pool.specs.Offsets.{open_edges_at}
use Rattle.candidate_pool.specs.Pool.{Pool}
use Rattle.candidate_pool.specs.Standing.{pool_at, Holds, EdgesHeld}
use Rattle.cap_triangles.specs.Selection.{Cap, caps_of}
use Rattle.cap_triangles.specs.Listed.{bad_cap, bad_cap_place, missing_place}
use Rattle.cap_triangles.specs.Room.{turned_at, pair_records_at, up_at, Pooled, Supplied, TurnedReady, CapReady}
use Rattle.cap_triangles.proofs.Fours.{caps_length}
use Rattle.cap_triangles.proofs.Kept.{pool_kept, edges_kept, held_kept, ready_kept}
use Rattle.cap_pairs.specs.Pairs.{Numbered, PairsKnown}
use Rattle.caps.specs.Operation.{supplied_tests}
use Rattle.caps.specs.Steps.{edges_in, CapsChecked, Listable}

pub pooled : (eps : Float) (n : ℕ) (w : List ℕ) → Holds eps n w → Pooled n w
pooled eps n w H = record { size = H.size; few = H.table.few; stored = H.stored; masks = H.masks; tidy = H.tidy }

pub supplied : (eps : Float) (vs : List Float) (fs cap_list : List ℕ) (n : ℕ) (w w' : List ℕ) → n ≤ 464920 → length fs / 3 ≤ 65536 → Listable vs fs cap_list n w →
    length w' ≡ length
    w → Holds eps n w'
    → Supplied n (length fs / 3) cap_list w'
supplied eps vs fs cap_list n w w' small few L e H =
    record {
      pooled = pooled eps n w' H;
      small = omega arith;
      few = omega arith;
      fours = L.list.whole;
      caps = L.list.few;
      size = let s = L.size in omega (arith, s, e);
    }

-- a refusal is no pass
refusal_passes : {A : Type 0} (r : Refusal) → ◌≡◌ {A = Result (Unit {0}) Refusal} (Err r) (Ok tt) → A
refusal_passes r e = absurd (let z : ◌≡◌ {A = ℕ} 0 1 = cc in omega arith)

turned_off : (n nf k : ℕ) (cap_list : List ℕ) (r : Refusal) (w w' : List ℕ) → Err r ≡ first_refusal (supplied_tests (pool_at n w) (caps_of cap_list) (edges_in n nf k w))
    → CapsChecked n nf k cap_list (Err r) w w'
turned_off n nf k cap_list r w w' e = record { found = e; above = refusal_passes r; ready = refusal_passes r; known = refusal_passes r }

module _ (n nf k : ℕ) (cap_list w : List ℕ) (S : Supplied n nf cap_list w) (H : EdgesHeld (pool_at n w) w (open_edges_at n nf) k) (few : k ≤ 3 * nf) where
  abbrev p : Pool
  p = pool_at n w

  abbrev l : List Cap
  l = caps_of cap_list

  abbrev es : List OpenEdge
  es = edges_in n nf k w

  abbrev second : List Test
  second = (ltb (missing_place p l es) (length es), MissingEdge (missing_place p l es)) ∷ []

  pub bad_refused : (bad : ℕ) → bad ≡ bad_cap_place p l → bad < length l → CapsChecked n nf k cap_list (Err (BadCap bad)) w w
  bad_refused bad eb h =
      turned_off n nf k cap_list (BadCap bad) w w
      (ap (λ (b : ℕ). Err (BadCap b)) eb
      ∙ sym (holds (ltb (bad_cap_place p l) (length l)) (BadCap (bad_cap_place p l)) second (lt-ltb (bad_cap_place p l) (length l) (omega (arith, eb, h)))))

  pub good_list : (bad : ℕ) → bad ≡ bad_cap_place p l → length cap_list / 4 ≤ bad → bad_cap_place p l ≡ length l
  unfolding bad_cap_place
  good_list bad eb g =
      let a = place_le (bad_cap p l) (up_to (length l)) in
      let b = length_up 0 (length l) in
      let c = caps_length cap_list in
      omega (arith, a, b, c, eb, g)

  module _ (g : bad_cap_place p l ≡ length l) where
    after_first : first_refusal (supplied_tests p l es) ≡ first_refusal second
    after_first =
        passes (ltb (bad_cap_place p l) (length l)) (BadCap (bad_cap_place p l)) second
        (le-ltb (bad_cap_place p l) (length l) (let e = g in omega (arith, e)))

    module _ (w₁ : List ℕ) (A₁ : Above (turned_at n nf) w w₁) (T₁ : TurnedReady n nf cap_list w₁) where
      pool_at_lem : (w' : List ℕ) → Above (turned_at n nf) w w' → pool_at n w' ≡ p
      pool_at_lem w' A = pool_kept (turned_at n nf) w w' A n S.pooled (omega arith)

      pub turned_ready : CapReady n nf k cap_list w₁
      turned_ready =
          record {
            ready = T₁;
            held = held_kept (turned_at n nf) w w₁ A₁ (open_edges_at n nf) k (omega (arith, few)) (pool_at n w₁)
                (subst (λ (q : Pool). EdgesHeld q w (open_edges_at n nf) k) (sym (pool_at_lem w₁ A₁)) H);
            edges = few;
          }

      module _ (w₂ : List ℕ) (N : Numbered n nf k cap_list w₁ w₂) where
        pub numbered_ready : CapReady n nf k cap_list w₂
        numbered_ready = ready_kept (pair_records_at n nf (length cap_list / 4)) w₁ w₂ N.above n nf cap_list k (omega arith) turned_ready

        module _ (w₃ : List ℕ) (A₃ : Above (up_at n nf (length cap_list / 4)) w₂ w₃) where
          pub noted_ready : CapReady n nf k cap_list w₃
          noted_ready = ready_kept (up_at n nf (length cap_list / 4)) w₂ w₃ A₃ n nf cap_list k (omega arith) numbered_ready

          above_all : Above (turned_at n nf) w w₃
          above_all =
              above_more (turned_at n nf) w w₂ w₃
              (above_more (turned_at n nf) w w₁ w₂ A₁ (above_less (turned_at n nf) (pair_records_at n nf (length cap_list / 4)) w₁ w₂ (omega arith) N.above))
              (above_less (turned_at n nf) (up_at n nf (length cap_list / 4)) w₂ w₃ (omega arith) A₃)

          edges_are : edges_in n nf k w₃ ≡ es
          edges_are = edges_kept (turned_at n nf) w w₃ above_all (open_edges_at n nf) k (omega (arith, few))

          place_is : missing_place (pool_at n w₃) l (edges_in n nf k w₃) ≡ missing_place p l es
          place_is = λ t. missing_place (pool_at_lem w₃ above_all t) l (edges_are t)

          pub missing_refused : (missing : ℕ) → missing ≡ missing_place (pool_at n w₃) l (edges_in n nf k w₃) → missing < length (edges_in n nf k w₃)
              → CapsChecked n nf k cap_list (Err (MissingEdge missing)) w w₃
          missing_refused missing em h =
              let e = em ∙ place_is in
              let d = ap length edges_are in
              turned_off n nf k cap_list (MissingEdge missing) w w₃
              (ap (λ (b : ℕ). Err (MissingEdge b)) e
              ∙ sym
              (after_first
              ∙ holds (ltb (missing_place p l es) (length es)) (MissingEdge (missing_place p l es)) [] (lt-ltb (missing_place p l es) (length es) (omega (arith, e, h, d)))))

          pub all_passed : missing_place (pool_at n w₃) l (edges_in n nf k w₃) ≡ length (edges_in n nf k w₃) → PairsKnown n nf k cap_list w₃
              → CapsChecked n nf k cap_list (Ok tt) w w₃
          all_passed h known =
              let e = place_is in
              let d = ap length edges_are in
              record {
                found = sym
                    (after_first
                    ∙ passes (ltb (missing_place p l es) (length es)) (MissingEdge (missing_place p l es)) [] (le-ltb (missing_place p l es) (length es) (omega (arith, e, h, d)))
                    ∙ none_left);
                above = λ z. above_all;
                ready = λ z. noted_ready;
                known = λ z. known;
              }
