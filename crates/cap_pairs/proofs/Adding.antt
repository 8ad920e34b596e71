-- Words of faces to which faces are added: one face, those of a word, and one word after another. Assumes nothing.
--   added_there, added_new          add_face: the face was there, or its bit is added
--   adding_start, adding_skip, adding_turn, adding_end     add_faces: those below `face` are added
--   noted_start, noted_turn         note_edges, note_sides: the first i are noted
use Prim.Native.Nat.{ℕ, ◌+◌, ◌*◌, ◌^◌, ◌%◌, ◌≤◌, ◌<◌}
use mathlib.Core.Bool.{Bool, true, false, ◌&&◌, ◌||◌, or-false, or_assoc}
use mathlib.Core.List.{List}
use mathlib.Core.Logic.{⊎_elim}
use mathlib.Core.Path.{◌≡◌, refl, sym, ap, subst, ◌∙◌}
use native.Mathlib.Decide.{ℕ_discrete}
use native.Mathlib.Omega.{arith}
use borrow.Author.Tests.{eqb-true, eqb-false, ltb-true, ltb-false, eq-eqb, ne_eqb, lt-ltb, le-ltb}
use lib.Dec.{eqb, ltb}
use lib.ListN.{length, get_or, set, length-set}
use lib.Seq.{get_or-set_same, get_or-set_other}
use Rattle.lists.specs.Lists.{some, up_to}
use Rattle.lists.proofs.Orders.{cases}
use Rattle.lists.proofs.Sequences.{some_up}
use Rattle.lists.proofs.Bools.{eqb_sym}
use Rattle.box_faces.specs.Faces.{has_bit}
use Rattle.candidate_pool.proofs.Masking.{mask_more, mask_low, shifted, no_bit}
use Rattle.cap_pairs.specs.Steps.{Added, Noted}
use Rattle.cap_pairs.proofs.Sums.{some_none}

-- ---- add_face
module _ (w : List ℕ) (at face : ℕ) (room : at < length w) (low : get_or w at 0 < 64) (k : face < 6) where
  pub added_there : has_bit (get_or w at 0) face ≡ true → Added w w at (eqb face)
  added_there on = record { long = refl; bits = λ f h. go f (eqb face f) refl; small = low; rest = λ x h. refl }
    where
      go : (f : ℕ) (b : Bool) → eqb face f ≡ b → has_bit (get_or w at 0) f ≡ (has_bit (get_or w at 0) f || eqb face f)
      go f true e =
          let t : has_bit (get_or w at 0) f ≡ true = ap (has_bit (get_or w at 0)) (sym (eqb-true face f e)) ∙ on in
          t ∙ sym (ap (λ (b : Bool). b || eqb face f) t)
      go f false e = sym (ap (λ (b : Bool). has_bit (get_or w at 0) f || b) e ∙ or-false (has_bit (get_or w at 0) f))

  pub fits_sum : has_bit (get_or w at 0) face ≡ false → get_or w at 0 + 1 * 2 ^ face % 18446744073709551616 < 64
  fits_sum off = let a = mask_low (get_or w at 0) face low k off in let b = shifted face k in omega arith

  pub added_new : (sum : ℕ) → sum ≡ get_or w at 0 + 1 * 2 ^ face % 18446744073709551616 → has_bit (get_or w at 0) face ≡ false → Added w (set w at sum) at (eqb face)
  added_new sum e off =
      record {
        long = length-set w at sum;
        bits = λ f h.
            ap (λ (m : ℕ). has_bit m f) (stored ∙ e ∙ ap (λ (m : ℕ). get_or w at 0 + m) (shifted face k)) ∙ mask_more (get_or w at 0) face low k off f h
            ∙ ap (λ (b : Bool). has_bit (get_or w at 0) f || b) (eqb_sym f face);
        small = let a = stored in let b = fits_sum off in omega arith;
        rest = λ x h. get_or-set_other w at x sum 0 h;
      }
    where
      stored : get_or (set w at sum) at 0 ≡ sum
      stored = get_or-set_same w at sum 0 room

-- ---- add_faces
abbrev pub Below : ℕ → ℕ → ℕ → Bool
Below mask face f = ltb f face && has_bit mask f

module _ (w₀ : List ℕ) (at mask : ℕ) where
  pub adding_start : get_or w₀ at 0 < 64 → Added w₀ w₀ at (Below mask 0)
  adding_start low =
      record {
        long = refl;
        bits = λ f h. sym (ap (λ (b : Bool). has_bit (get_or w₀ at 0) f || (b && has_bit mask f)) (le-ltb f 0 (omega arith)) ∙ or-false (has_bit (get_or w₀ at 0) f));
        small = low;
        rest = λ x h. refl;
      }

  module _ (w : List ℕ) (face : ℕ) (a : Added w₀ w at (Below mask face)) where
    -- the test at face + 1 is that at face, or face itself where the mask has it
    beyond : (f : ℕ) (b : Bool) → has_bit mask face ≡ b → (Below mask face f || (eqb face f && b)) ≡ Below mask (face + 1) f
    beyond f b m =
        ⊎_elim
        (λ (e : eqb face f ≡ true).
        let q = eqb-true face f e in
        let x : has_bit mask f ≡ b = ap (has_bit mask) (sym q) ∙ m in
        (λ t. (le-ltb f face (omega arith) t && has_bit mask f) || (e t && b)) ∙ sym x ∙ sym (ap (λ (c : Bool). c && has_bit mask f) (lt-ltb f (face + 1) (omega arith))))
        (λ (e : eqb face f ≡ false).
        ap (λ (c : Bool). Below mask face f || (c && b)) e ∙ or-false (Below mask face f) ∙ ap (λ (c : Bool). c && has_bit mask f) (other e))
        (cases (eqb face f))
      where
        other : eqb face f ≡ false → ltb f face ≡ ltb f (face + 1)
        other e =
            ⊎_elim (λ (l : ltb f face ≡ true). l ∙ sym (lt-ltb f (face + 1) (let h = ltb-true f face l in omega arith)))
            (λ (l : ltb f face ≡ false). l ∙ sym (le-ltb f (face + 1) (let h = ltb-false f face l in let n = eqb-false face f e in omega arith)))
            (cases (ltb f face))

    pub adding_skip : has_bit mask face ≡ false → Added w₀ w at (Below mask (face + 1))
    adding_skip m =
        record {
          long = a.long;
          bits = λ f h.
              a.bits f h ∙ ap (λ (b : Bool). has_bit (get_or w₀ at 0) f || b)
              (sym (or-false (Below mask face f)) ∙ ap (λ (b : Bool). Below mask face f || b) (sym (none (eqb face f))) ∙ beyond f false m);
          small = a.small;
          rest = a.rest;
        }
      where
        none : (b : Bool) → (b && false) ≡ false
        none true = refl
        none false = refl

    pub adding_turn : (v : List ℕ) → has_bit mask face ≡ true → Added w v at (eqb face) → Added w₀ v at (Below mask (face + 1))
    adding_turn v m s =
        record {
          long = s.long ∙ a.long;
          bits = λ f h.
              s.bits f h ∙ ap (λ (b : Bool). b || eqb face f) (a.bits f h) ∙ or_assoc (has_bit (get_or w₀ at 0) f) (Below mask face f) (eqb face f)
              ∙ ap (λ (b : Bool). has_bit (get_or w₀ at 0) f || b) (ap (λ (b : Bool). Below mask face f || b) (sym (whole (eqb face f))) ∙ beyond f true m);
          small = s.small;
          rest = λ x h. s.rest x h ∙ a.rest x h;
        }
      where
        whole : (b : Bool) → (b && true) ≡ b
        whole true = refl
        whole false = refl

    pub adding_end : 6 ≤ face → Added w₀ w at (has_bit mask)
    adding_end h =
        record {
          long = a.long;
          bits = λ f l. a.bits f l ∙ ap (λ (b : Bool). has_bit (get_or w₀ at 0) f || (b && has_bit mask f)) (lt-ltb f face (omega arith));
          small = a.small;
          rest = a.rest;
        }

-- ---- note_edges, note_sides
module _ (target : ℕ → ℕ) (bits : ℕ → ℕ → Bool) (w₀ : List ℕ) where
  pub noted_start : Noted target bits w₀ w₀ 0
  noted_start =
      record {
        long = refl;
        at = λ x f h z. ap (λ (m : ℕ). has_bit m f) z ∙ no_bit f h ∙ sym (some_none (λ j. eqb (target j) x && bits j f));
        small = λ x z. omega arith;
        rest = λ x h. refl;
      }

  module _ (w : List ℕ) (i : ℕ) (a : Noted target bits w₀ w i) where
    pub noted_turn : (v : List ℕ) → get_or w₀ (target i) 0 ≡ 0 → Added w v (target i) (bits i) → Noted target bits w₀ v (i + 1)
    noted_turn v z s =
        record {
          long = s.long ∙ a.long;
          at = λ x f h q. each x f h q (ℕ_discrete x (target i)) ∙ sym (some_up (λ j. eqb (target j) x && bits j f) i);
          small = λ x q. low x q (ℕ_discrete x (target i));
          rest = λ x h. s.rest x (λ q. h i (omega arith) (sym q)) ∙ a.rest x (λ j l. h j (omega arith));
        }
      where
        each : (x f : ℕ) → f < 6 → get_or w₀ x 0 ≡ 0 → Dec (x ≡ target i) → has_bit (get_or v x 0) f ≡
            (some (λ j. eqb (target j) x && bits j f) (up_to i) || (eqb (target i) x && bits i f))
        each x f h q (yes e) =
            ap (λ (y : ℕ). has_bit (get_or v y 0) f) e ∙ s.bits f h
            ∙ ap (λ (b : Bool). b || bits i f) (ap (λ (y : ℕ). has_bit (get_or w y 0) f) (sym e) ∙ a.at x f h q)
            ∙ ap (λ (b : Bool). some (λ j. eqb (target j) x && bits j f) (up_to i) || (b && bits i f)) (sym (eq-eqb (target i) x (sym e)))
        each x f h q (no n) =
            ap (λ (m : ℕ). has_bit m f) (s.rest x n) ∙ a.at x f h q
            ∙ sym (ap (λ (b : Bool). some (λ j. eqb (target j) x && bits j f) (up_to i) || (b && bits i f)) (ne_eqb (target i) x (λ e. n (sym e)))
            ∙ or-false (some (λ j. eqb (target j) x && bits j f) (up_to i)))

        low : (x : ℕ) → get_or w₀ x 0 ≡ 0 → Dec (x ≡ target i) → get_or v x 0 < 64
        low x q (yes e) = subst (λ (y : ℕ). get_or v y 0 < 64) (sym e) s.small
        low x q (no n) = let r = s.rest x n in let l = a.small x q in omega arith
