-- What `{:>width$b}` writes is spelled. Assumes nothing.
--   in_field        it is the digits, with spaces in front
--   row_written     those of n, between two texts, are what `RowWritten` says;   row_of   and those of a number that is n
use mathlib.Core.Path.{◌≡◌, refl, sym, ap, ◌∙◌, subst}
use mathlib.Core.List.{List, [], ◌∷◌, ◌++◌, append-nil}
use mathlib.Core.Logic.{inl, inr}
use mathlib.Core.Bool.{Bool, false, cond}
use Prim.Native.Nat.{ℕ, zero, suc, ◌+◌, ◌-◌, ◌/◌, ◌%◌, ◌^◌, ◌≤◌, ◌<◌}
use native.Mathlib.Omega.{arith}
use native.Mathlib.Decide.{ℕ_discrete}
use native.Mathlib.Nat.{div-eq_of_lt, zero-div}
use borrow.Author.Tests.{eq-eqb, ne_eqb, lt-ltb}
use lib.Dec.{eqb}
use lib.ListN.{length, get_or, replicate, length-append, length-replicate}
use lib.Pow.{shr-shr}
use Rattle.std.specs.Prelude.{◌⊎◌, Some, Option, Result, Ok, Err, OnOk, IfSome}
use Rattle.std.specs.List.{repeat}
use Rattle.std.specs.Char.{encode_utf8}
use Rattle.std.specs.Fmt.{digits, digits_onto, digit_glyph, format_spec, ◌++?◌, padded_integral, char_count}
use Rattle.std.proofs.DigitsParse.{digits_onto-nil, digits_onto_last, digits_onto_step}
use Rattle.std.specs.Io.KnownBytes.{Appends}
use Rattle.root.proofs.Grid.{lt_or_ge}
use Rattle.root_steps.specs.Spelling.{glyph, Spelled, RowWritten}

-- what a zero is written as, k places before the last
abbrev zero_at : ℕ → ℕ
zero_at k = cond (eqb k 0) 48 32

spelled_nil : (n : ℕ) → Spelled [] n
spelled_nil n = record { places = λ i j e. absurd (omega arith) }

spelled_cons : (d : ℕ) (text : List ℕ) (n : ℕ) → Spelled text n → d ≡ glyph (n / 2 ^ length text) (zero_at (length text)) → Spelled (d ∷ text) n
spelled_cons d text n s e = record { places = at }
  where
    at : (i j : ℕ) → i + j + 1 ≡ length (d ∷ text) → get_or (d ∷ text) i 0 ≡ glyph (n / 2 ^ j) (zero_at j)
    at zero j h = let same : length text ≡ j = omega arith in e ∙ ap (λ (k : ℕ). glyph (n / 2 ^ k) (zero_at k)) same
    at (suc i) j h = s.places i j (omega arith)

-- all the digits of n, and no zero in front
record Done (text : List ℕ) (n : ℕ) : Type 0 where
  spelled : Spelled text n
  some : 0 < length text
  whole : n / 2 ^ length text ≡ 0
  lead : length text ≡ 1 ⊎ (0 < n / 2 ^ (length text - 1))

digit : (r blank : ℕ) → (r ≡ 0 → blank ≡ 48) → digit_glyph false (r % 2) ≡ glyph r blank
digit r blank h = ap (λ (b : Bool). cond b (48 + r % 2) (87 + r % 2)) (lt-ltb (r % 2) 10 (omega arith)) ∙ go (ℕ_discrete r 0)
  where
    go : Dec (r ≡ 0) → 48 + r % 2 ≡ glyph r blank
    go (yes e) = let z : 48 + r % 2 ≡ 48 = omega arith in z ∙ sym (h e) ∙ sym (ap (λ (b : Bool). cond b blank (48 + r % 2)) (eq-eqb r 0 e))
    go (no e) = sym (ap (λ (b : Bool). cond b blank (48 + r % 2)) (ne_eqb r 0 e))

module _ (n : ℕ) where
  next : (r : ℕ) (acc : List ℕ) → r ≡ n / 2 ^ length acc → r / 2 ≡ n / 2 ^ suc (length acc)
  next r acc e = ap (λ (x : ℕ). x / 2) e ∙ shr-shr n (length acc) 1 ∙ ap (λ (k : ℕ). n / 2 ^ k) (omega arith)

  with_digit : (r : ℕ) (acc : List ℕ) → Spelled acc n → r ≡ n / 2 ^ length acc → length acc ≡ 0 ⊎ (0 < r) → Spelled (digit_glyph false (r % 2) ∷ acc) n
  with_digit r acc s e h =
      spelled_cons (digit_glyph false (r % 2)) acc n s (digit r (zero_at (length acc)) blank ∙ ap (λ (x : ℕ). glyph x (zero_at (length acc))) e)
    where
      blank : r ≡ 0 → zero_at (length acc) ≡ 48
      blank z = elim h [ inl k ↦ ap zero_at k | inr p ↦ absurd (omega arith) ]

  last : (r : ℕ) (acc : List ℕ) → Spelled acc n → r ≡ n / 2 ^ length acc → length acc ≡ 0 ⊎ (0 < r) → r / 2 ≡ 0 → Done (digit_glyph false (r % 2) ∷ acc) n
  last r acc s e h z = record {
    spelled = with_digit r acc s e h;
    some = omega arith;
    whole = sym (next r acc e) ∙ z;
    lead = elim h [ inl k ↦ inl (omega arith) | inr p ↦ inr (first p) ];
  }
    where
      first : 0 < r → 0 < n / 2 ^ (suc (length acc) - 1)
      first p = let k : suc (length acc) - 1 ≡ length acc = omega arith in rw k (omega arith)

  -- with k + 1 digits at most left to write
  done : (k r : ℕ) (acc : List ℕ) → r / 2 ^ (k + 1) ≡ 0 → Spelled acc n → r ≡ n / 2 ^ length acc → length acc ≡ 0 ⊎ (0 < r) → Done (digits_onto (suc k) 2 false r acc) n
  done zero r acc b s e h = subst (λ (l : List ℕ). Done l n) (sym (digits_onto_last 2 false r acc 1 (omega arith) b)) (last r acc s e h b)
  done (suc k) r acc b s e h = elim (ℕ_discrete (r / 2) 0) [
    | yes z ↦ subst (λ (l : List ℕ). Done l n) (sym (digits_onto_last 2 false r acc (suc (suc k)) (omega arith) z)) (last r acc s e h z)
    | no z ↦
        let f : suc (suc k) - 1 ≡ suc k = omega arith in
        let g : 1 + (k + 1) ≡ suc k + 1 = omega arith in
        let m : 0 < r / 2 = omega arith in
        subst (λ (l : List ℕ). Done l n)
        (sym (digits_onto_step 2 false r acc (suc (suc k)) (omega arith) z ∙ ap (λ (j : ℕ). digits_onto j 2 false (r / 2) (digit_glyph false (r % 2) ∷ acc)) f))
        (done k (r / 2) (digit_glyph false (r % 2) ∷ acc) (shr-shr r 1 (k + 1) ∙ ap (λ (j : ℕ). r / 2 ^ j) g ∙ b) (with_digit r acc s e h) (next r acc e) (inr m))
  ]

  digits_done : n < 2 ^ 64 → Done (digits 2 false n) n
  digits_done h =
      let one : n ≡ n / 1 = omega arith in
      subst (λ (l : List ℕ). Done l n) (digits_onto-nil 2 false n) (done 63 n [] (div-eq_of_lt h) (spelled_nil n) one (inl refl))

  -- spaces in front of what is spelled
  with_spaces : (p : ℕ) (text : List ℕ) → Done text n → Spelled (replicate p 32 ++ text) n
  with_spaces zero text d = d.spelled
  with_spaces (suc p) text d = spelled_cons 32 (replicate p 32 ++ text) n (with_spaces p text d) (sym (nothing ∙ space))
    where
      long : length (replicate p 32 ++ text) ≡ length text + p
      long = omega (arith, length-append (replicate p 32) text, length-replicate {A = ℕ} p 32)

      nothing : glyph (n / 2 ^ length (replicate p 32 ++ text)) (zero_at (length (replicate p 32 ++ text))) ≡ zero_at (length (replicate p 32 ++ text))
      nothing = ap (λ (x : ℕ). glyph x (zero_at (length (replicate p 32 ++ text))))
          (ap (λ (k : ℕ). n / 2 ^ k) long ∙ sym (shr-shr n (length text) p) ∙ ap (λ (x : ℕ). x / 2 ^ p) d.whole ∙ zero-div (2 ^ p))

      space : zero_at (length (replicate p 32 ++ text)) ≡ 32
      space = ap (λ (b : Bool). cond b 48 32) (ne_eqb (length (replicate p 32 ++ text)) 0 (omega (arith, long, d.some)))

  no_longer : (text : List ℕ) (width : ℕ) → Done text n → 0 < width → n < 2 ^ width → length text ≤ width
  no_longer text width d w h = elim d.lead [ inl e ↦ omega arith | inr p ↦ go p (lt_or_ge width (length text)) ]
    where
      go : 0 < n / 2 ^ (length text - 1) → (width < length text) ⊎ (length text ≤ width) → length text ≤ width
      go p (inr l) = l
      go p (inl l) =
          let e : width + (length text - 1 - width) ≡ length text - 1 = omega arith in
          let z : n / 2 ^ (length text - 1) ≡ 0 =
          ap (λ (k : ℕ). n / 2 ^ k) (sym e) ∙ sym (shr-shr n width (length text - 1 - width)) ∙ ap (λ (x : ℕ). x / 2 ^ (length text - 1 - width)) (div-eq_of_lt h)
          ∙ zero-div (2 ^ (length text - 1 - width)) in
          absurd (omega arith)

spaces : (p : ℕ) → repeat p (encode_utf8 32) ≡ replicate p 32
unfolding encode_utf8
spaces zero = refl
spaces (suc p) = λ i. 32 ∷ spaces p i

pub in_field : (width most : ℕ) (text : List ℕ) → padded_integral (format_spec 32 3 0 width most) false [] text ≡ replicate (width - length text) 32 ++ text
unfolding padded_integral char_count
in_field width most text =
    let p : width - length text - 0 - 0 ≡ width - length text = omega arith in
    let none : width - length text - (width - length text) ≡ 0 = omega arith in
    rw (p, none, spaces (width - length text)) (simp append-nil)

on_ok : {T E : Type 0} (r : Result T E) {P Q : Type 0} → (P → Q) → OnOk r P → OnOk r Q
on_ok (Ok x) f p = f p
on_ok (Err e) f p = tt

pub row_written : {T E : Type 0} (r : Result T E) (old new o : Option (List ℕ)) (label end : List ℕ) (n width : ℕ) → n < 2 ^ 64
    → o ≡ Some (replicate (width - length (digits 2 false n)) 32 ++ digits 2 false n) → OnOk r (IfSome (Some label ++? (o ++? Some end)) (Appends old new))
    → OnOk r (RowWritten old new label n width end)
row_written r old new o label end n width small e h =
    on_ok r row (subst (λ (x : Option (List ℕ)). OnOk r (IfSome (Some label ++? (x ++? Some end)) (Appends old new))) e h)
  where
    done_n : Done (digits 2 false n) n
    done_n = digits_done n small

    long : length (replicate (width - length (digits 2 false n)) 32 ++ digits 2 false n) ≡ width - length (digits 2 false n) + length (digits 2 false n)
    long = omega (arith, length-append (replicate (width - length (digits 2 false n)) 32) (digits 2 false n), length-replicate {A = ℕ} (width - length (digits 2 false n)) 32)

    row : Appends old new (label ++ ((replicate (width - length (digits 2 false n)) 32 ++ digits 2 false n) ++ end)) → RowWritten old new label n width end
    row a = record {
      text = replicate (width - length (digits 2 false n)) 32 ++ digits 2 false n;
      spelled = with_spaces n (width - length (digits 2 false n)) (digits 2 false n) done_n;
      wide = omega (arith, long);
      fits = λ positive b. omega (arith, long, no_longer n (digits 2 false n) width done_n positive b);
      written = a;
    }

-- as `row_written`, of a number that is n
pub row_of : {T E : Type 0} (r : Result T E) (old new o : Option (List ℕ)) (label end : List ℕ) (m n width : ℕ) → n < 2 ^ 64 → m ≡ n
    → o ≡ Some (replicate (width - length (digits 2 false m)) 32 ++ digits 2 false m) → OnOk r (IfSome (Some label ++? (o ++? Some end)) (Appends old new))
    → OnOk r (RowWritten old new label n width end)
row_of r old new o label end m n width small is e h =
    row_written r old new o label end n width small
    (e ∙ ap (λ (k : ℕ). Some (replicate (width - length (digits 2 false k)) 32 ++ digits 2 false k)) is) h
