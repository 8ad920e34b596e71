-- The loop from run to run that marks the first record of each key. Assumes nothing.
--   Marking, marking_start, marking_turn, marking_end   the records before i are marked
--   place_room, put_long, put_below                     what the stores ask, and leave
use Prim.Native.Nat.{ℕ, zero, suc, ◌+◌, ◌*◌, ◌-◌, ◌≤◌, ◌<◌}
use mathlib.Core.Path.{◌≡◌, refl, sym, ap, ◌∙◌}
use mathlib.Core.Bool.{Bool, true, false, cond}
use mathlib.Core.List.{List}
use mathlib.Core.Logic.{◌⊎◌, inl, inr, ⊎_elim}
use native.Mathlib.Decide.{ℕ_discrete}
use native.Mathlib.Omega.{arith}
use lib.ListN.{length, get_or}
use Rattle.lists.specs.Lists.{count, up_from, up_to}
use Rattle.records.specs.Buffer.{key_in, payload_in}
use Rattle.records.specs.Runs.{Run, PayloadsPut}
use Rattle.records.proofs.ByRuns.{run_at, KeysPart, part_start, part_next, run_first}
use Rattle.records.proofs.Records.{le_or_lt}
use Rattle.sorting.specs.Sorting.{SortedPlaces}
use Rattle.cap_closing.specs.Steps.{is_first, bit, FirstsMarked}
use Rattle.cap_closing.proofs.Places.{first_none, first_some}
use Rattle.cap_closing.proofs.Upwards.{count_more}

-- ---- of the places from i on before e only i passes
only_one : (p : ℕ → Bool) (i d : ℕ) → p i ≡ true → ((j : ℕ) → i < j → j < i + suc d → p j ≡ false) → count p (up_to (i + suc d)) ≡ count p (up_to i) + 1
only_one p i zero t f = count_more p i ∙ ap (λ (b : Bool). count p (up_to i) + cond b 1 0) t
only_one p i (suc d) t f =
    ap (λ (k : ℕ). count p (up_to k)) (next i d) ∙ count_more p (i + suc d)
    ∙ (λ s. only_one p i d t (λ j h l. f j h (omega arith)) s + cond (f (i + suc d) (omega arith) (omega arith) s) 1 0) ∙ none (count p (up_to i) + 1)
  where
    next : (i d : ℕ) → i + suc (suc d) ≡ i + suc d + 1
    next i d = omega arith

    none : (k : ℕ) → k + 0 ≡ k
    none k = omega arith

pub record Marking (w₀ : List ℕ) (records firsts left : ℕ) (w : List ℕ) (r i : ℕ) : Type 0 where
  pub within : i ≤ left
  pub part : KeysPart w₀ records left i
  pub marks : (j : ℕ) → j < i → get_or w (firsts + payload_in w₀ records j) 0 ≡ bit (is_first (key_in w₀ records) j)
  pub counted : r ≡ count (is_first (key_in w₀ records)) (up_to i)
  pub few : r ≤ i
  pub long : length w ≡ length w₀
  pub below : (x : ℕ) → x < firsts → get_or w x 0 ≡ get_or w₀ x 0
  pub beyond : (x : ℕ) → firsts + left ≤ x → get_or w x 0 ≡ get_or w₀ x 0

module _ (w₀ : List ℕ) (records firsts left : ℕ) (behind : records + 2 * left ≤ firsts) (room : firsts + left ≤ length w₀) (s : SortedPlaces w₀ records left) where
  pub marking_start : Marking w₀ records firsts left w₀ 0 0
  unfolding up_from
  marking_start =
      record {
        within = omega arith;
        part = part_start w₀ records left;
        marks = λ j h. absurd (omega arith);
        counted = refl;
        few = omega arith;
        long = refl;
        below = λ x h. refl;
        beyond = λ x h. refl;
      }

  -- what `put_by_payload` asks, and leaves, in a list with the same records
  module _ (w : List ℕ) (long : length w ≡ length w₀) (same : (x : ℕ) → x < firsts → get_or w x 0 ≡ get_or w₀ x 0) where
    place_same : (j : ℕ) → j < left → payload_in w records j ≡ payload_in w₀ records j
    place_same j h = same (records + 2 * j + 1) (omega arith)

    pub place_room : (j : ℕ) → j < left → firsts + payload_in w records j < length w
    place_room j h = let e = place_same j h in let l = s.low j h in omega arith

    module _ (v : List ℕ) (i e x : ℕ) (le : e ≤ left) (P : PayloadsPut w v records firsts i e x) where
      put_here : (j : ℕ) → i ≤ j → j < e → get_or v (firsts + payload_in w₀ records j) 0 ≡ x
      put_here j l h = ap (λ (y : ℕ). get_or v (firsts + y) 0) (sym (place_same j (omega arith))) ∙ P.put j l h

      put_there : (j : ℕ) → j < left → ((k : ℕ) → i ≤ k → k < e → j ≡ k → ⊥)
          → get_or v (firsts + payload_in w₀ records j) 0 ≡ get_or w (firsts + payload_in w₀ records j) 0
      put_there j h n =
          P.rest (firsts + payload_in w₀ records j) (λ k l g q.
          let k<left : k < left = omega arith in
          let y = place_same k k<left in
          ⊎_elim (λ (m : k ≤ j). s.differ k j (later m (n k l g)) h (omega arith)) (λ (m : j < k). s.differ j k m k<left (omega arith)) (le_or_lt k j))
        where
          later : {k j : ℕ} → k ≤ j → (j ≡ k → ⊥) → k < j
          later m d = omega arith

      pub put_below : (y : ℕ) → y < firsts → get_or v y 0 ≡ get_or w₀ y 0
      put_below y h = P.rest y (λ k l g q. omega arith) ∙ same y h

      put_beyond : (y : ℕ) → firsts + left ≤ y → get_or v y 0 ≡ get_or w y 0
      put_beyond y h = P.rest y (λ k l g q. let a = place_same k (omega arith) in let b = s.low k (omega arith) in omega arith)

      pub put_long : length v ≡ length w₀
      put_long = P.long ∙ long

  module _ (w : List ℕ) (r i e : ℕ) (M : Marking w₀ records firsts left w r i) (run : Run w records left i e) where
    run₀ : Run w₀ records left i e
    run₀ = run_at w₀ w records left i e run (λ x l h. M.below x (omega arith))

    is_first_lem : is_first (key_in w₀ records) i ≡ true
    is_first_lem = first_none (key_in w₀ records) i (run_first w₀ records left i e run₀ M.part i (omega arith) run.more).none

    not_first : (j : ℕ) → i < j → j < e → is_first (key_in w₀ records) j ≡ false
    not_first j l h = first_some (key_in w₀ records) j i l (sym (run₀.same j (omega arith) h))

    counted : r + 1 ≡ count (is_first (key_in w₀ records)) (up_to e)
    counted =
        ap (λ (k : ℕ). k + 1) M.counted
        ∙ sym (only_one (is_first (key_in w₀ records)) i (e - (i + 1)) is_first_lem (λ j l h. not_first j l (omega (arith, run.more))))
        ∙ ap (λ (k : ℕ). count (is_first (key_in w₀ records)) (up_to k)) (omega (arith, run.more))

    module _ (v u : List ℕ) (P : PayloadsPut w v records firsts i (i + 1) 1) (Q : PayloadsPut v u records firsts (i + 1) e 0) where
      abbrev i+1≤left : i + 1 ≤ left
      i+1≤left = omega (arith, run.more, run.within)

      pub v_long : length v ≡ length w₀
      v_long = put_long w M.long M.below v i (i + 1) 1 i+1≤left P

      pub v_below : (x : ℕ) → x < firsts → get_or v x 0 ≡ get_or w₀ x 0
      v_below = put_below w M.long M.below v i (i + 1) 1 i+1≤left P

      second : (j : ℕ) → j < i + 1 → get_or u (firsts + payload_in w₀ records j) 0 ≡ get_or v (firsts + payload_in w₀ records j) 0
      second j h = put_there v v_long v_below u (i + 1) e 0 run.within Q j (omega (arith, i+1≤left)) (λ k l g q. omega arith)

      marks : (j : ℕ) → j < e → (i ≤ j) ⊎ (j < i) → Dec (j ≡ i) → get_or u (firsts + payload_in w₀ records j) 0 ≡ bit (is_first (key_in w₀ records) j)
      marks j h o (yes q) =
          second j (omega arith) ∙ put_here w M.long M.below v i (i + 1) 1 i+1≤left P j (omega arith) (omega arith)
          ∙ sym (ap (λ (x : ℕ). bit (is_first (key_in w₀ records) x)) q ∙ ap bit is_first_lem)
      marks j h (inl l) (no n) =
          put_here v v_long v_below u (i + 1) e 0 run.within Q j (let g = later l n in omega arith) h ∙ sym (ap bit (not_first j (later l n) h))
        where
          later : i ≤ j → (j ≡ i → ⊥) → i < j
          later l n = omega arith
      marks j h (inr l) (no n) =
          second j (omega arith) ∙ put_there w M.long M.below v i (i + 1) 1 i+1≤left P j (omega (arith, i+1≤left)) (λ k a g q. omega arith) ∙ M.marks j l

      pub marking_turn : Marking w₀ records firsts left u (r + 1) e
      marking_turn =
          record {
            within = run.within;
            part = part_next w₀ records left i e run₀ M.part s.ascend;
            marks = λ j h. marks j h (le_or_lt i j) (ℕ_discrete j i);
            counted = counted;
            few = omega (arith, run.more, M.few);
            long = put_long v v_long v_below u (i + 1) e 0 run.within Q;
            below = put_below v v_long v_below u (i + 1) e 0 run.within Q;
            beyond = λ x l. put_beyond v v_long v_below u (i + 1) e 0 run.within Q x l
                ∙ put_beyond w M.long M.below v i (i + 1) 1 i+1≤left P x l ∙ M.beyond x l;
          }

  pub marking_end : (w : List ℕ) (r i : ℕ) → Marking w₀ records firsts left w r i → left ≤ i → FirstsMarked records firsts left r w₀ w
  marking_end w r i M h =
      let e : i ≡ left = omega (arith, M.within) in
      record {
        marks = λ j l. M.marks j (omega arith);
        counted = M.counted ∙ ap (λ (k : ℕ). count (is_first (key_in w₀ records)) (up_to k)) e;
        long = M.long;
        below = M.below;
        beyond = M.beyond;
      }
