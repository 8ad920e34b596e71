-- The loop that marks the components of seeds. Assumes nothing.
--   Marking        of the first i triangles the seeds' components are marked
--   mark_start, mark_turn, mark_end   no triangle, one more, all of them
use Prim.Native.Nat.{ℕ, ◌+◌, ◌*◌, ◌≤◌, ◌<◌}
use native.Mathlib.Omega.{arith}
use mathlib.Core.Path.{◌≡◌, refl, sym, ap, ◌∙◌, subst}
use mathlib.Core.Bool.{Bool, true, false, cond, ◌&&◌, ◌||◌, or-false, or-true}
use mathlib.Core.List.{List}
use mathlib.Core.Logic.{◌⊎◌, inl, inr}
use borrow.Author.Tests.{eq-eqb, ne_eqb}
use lib.Dec.{eqb}
use lib.ListN.{length, get_or, set, length-set}
use lib.Seq.{get_or-set_other}
use Rattle.lists.specs.Lists.{up_from}
use Rattle.lists.proofs.Bools.{and_next, and_stop}
use Rattle.lists.specs.Regions.{Above}
use Rattle.lists.proofs.Regions.{at_set}
use Rattle.lists.proofs.Sequences.{some_up}
use Rattle.cap_triangles.specs.Room.{labels_at, components_at, seeded_at}
use Rattle.cap_selection.specs.Steps.{seed_in, seeded_by, marked_seed, SidesNumbered, Markable, SeedsMarked}
use Rattle.cap_selection.proofs.Same.{seed_same, numbered_same}

module _ (n nf nc k : ℕ) (cap_list w : List ℕ) where
  pub record Marking (v : List ℕ) (i : ℕ) : Type 0 where
    pub upto : i ≤ nc
    pub above : Above (seeded_at n nf nc) w v
    pub seeded : (r : ℕ) → r < nc → get_or v (seeded_at n nf nc + r) 0 ≡ cond (seeded_by n nf nc k cap_list w i r) 1 0

  abbrev marks : ℕ → ℕ → Bool
  marks r j = seed_in n nf nc k w j (get_or cap_list (4 * j) 0) && eqb (get_or w (components_at n nf nc + j) 0) r

  more : (i r : ℕ) → seeded_by n nf nc k cap_list w (i + 1) r ≡ (seeded_by n nf nc k cap_list w i r || marks r i)
  unfolding seeded_by
  more i r = some_up (marks r) i

  none : (r : ℕ) → seeded_by n nf nc k cap_list w 0 r ≡ false
  unfolding seeded_by up_from
  none r = refl

  pub mark_start : Markable n nf nc k cap_list w → Marking w 0
  mark_start r =
      record {
        upto = omega arith;
        above = record { long = refl; below = λ x h. refl };
        seeded = λ c h. r.unmarked c h ∙ ap (λ (b : Bool). cond b 1 0) (sym (none c));
      }

  module _ (room : Markable n nf nc k cap_list w) (v : List ℕ) (i : ℕ) (l : i < nc) (m : Marking v i) where
    -- the tables that are read stand before the marks
    pub below_marks : Above (labels_at n nf nc) w v
    below_marks = record { long = m.above.long; below = λ x h. m.above.below x (omega arith) }

    pub marking_numbered : SidesNumbered n nf nc k v
    marking_numbered = numbered_same n nf nc k w room.sides v below_marks

    component_same : get_or v (components_at n nf nc + i) 0 ≡ get_or w (components_at n nf nc + i) 0
    component_same = m.above.below (components_at n nf nc + i) (omega arith)

    pub component_low : get_or v (components_at n nf nc + i) 0 < nc
    component_low = let e = component_same in let c = room.components i l in omega arith

    skips : seed_in n nf nc k w i (get_or cap_list (4 * i) 0) ≡ false → Marking v (i + 1)
    skips off =
        record {
          upto = omega arith;
          above = m.above;
          seeded = λ r h.
              m.seeded r h
              ∙ ap (λ (b : Bool). cond b 1 0)
              (sym (more i r
              ∙ ap (λ (b : Bool). seeded_by n nf nc k cap_list w i r || b) (and_stop (seed_in n nf nc k w i (get_or cap_list (4 * i) 0)) (eqb (get_or w (components_at n nf nc + i) 0) r)
              off)
              ∙ or-false (seeded_by n nf nc k cap_list w i r)));
        }

    abbrev c : ℕ
    c = get_or v (components_at n nf nc + i) 0

    marks_it : seed_in n nf nc k w i (get_or cap_list (4 * i) 0) ≡ true → Marking (set v (seeded_at n nf nc + c) 1) (i + 1)
    marks_it on =
        record {
          upto = omega arith;
          above = record {
            long = length-set v (seeded_at n nf nc + c) 1 ∙ m.above.long;
            below = λ x h. get_or-set_other v (seeded_at n nf nc + c) x 1 0 (λ e. omega arith) ∙ m.above.below x h;
          };
          seeded = λ r h. go r h (at_set v (seeded_at n nf nc) c 1 r fits);
        }
      where
        fits : seeded_at n nf nc + c < length v
        fits = let g = m.above.long in let z = room.sides.size in let q = component_low in omega arith

        mark : (r : ℕ) → marks r i ≡ eqb c r
        mark r =
            and_next (seed_in n nf nc k w i (get_or cap_list (4 * i) 0)) (eqb (get_or w (components_at n nf nc + i) 0) r) (eqb c r) on
            (ap (λ (x : ℕ). eqb x r) (sym component_same))

        now : (r : ℕ) (b : Bool) → eqb c r ≡ b → seeded_by n nf nc k cap_list w (i + 1) r ≡ (seeded_by n nf nc k cap_list w i r || b)
        now r b e = more i r ∙ ap (λ (b : Bool). seeded_by n nf nc k cap_list w i r || b) (mark r ∙ e)

        go : (r : ℕ) → r < nc
            → ((r ≡ c) × (get_or (set v (seeded_at n nf nc + c) 1) (seeded_at n nf nc + r) 0 ≡ 1))
            ⊎ ((r ≡ c → ⊥) × (get_or (set v (seeded_at n nf nc + c) 1) (seeded_at n nf nc + r) 0 ≡ get_or v (seeded_at n nf nc + r) 0))
            → get_or (set v (seeded_at n nf nc + c) 1) (seeded_at n nf nc + r) 0 ≡ cond (seeded_by n nf nc k cap_list w (i + 1) r) 1 0
        go r h (inl e) = e.1 ∙ ap (λ (b : Bool). cond b 1 0) (sym (now r true (eq-eqb c r (sym e.0)) ∙ or-true (seeded_by n nf nc k cap_list w i r)))
        go r h (inr e) =
            e.1 ∙ m.seeded r h
            ∙ ap (λ (b : Bool). cond b 1 0) (sym (now r false (ne_eqb c r (λ q. e.0 (sym q))) ∙ or-false (seeded_by n nf nc k cap_list w i r)))

    pub mark_turn : (u : List ℕ) → u ≡ marked_seed n nf nc k v i (get_or cap_list (4 * i) 0) → Marking u (i + 1)
    mark_turn u is = subst (λ (x : List ℕ). Marking x (i + 1)) (sym is) (go (seed_in n nf nc k v i (get_or cap_list (4 * i) 0)) refl)
      where
        same : seed_in n nf nc k v i (get_or cap_list (4 * i) 0) ≡ seed_in n nf nc k w i (get_or cap_list (4 * i) 0)
        same = seed_same n nf nc k w room.sides v below_marks i (get_or cap_list (4 * i) 0) l

        go : (b : Bool) → seed_in n nf nc k v i (get_or cap_list (4 * i) 0) ≡ b → Marking (cond b (set v (seeded_at n nf nc + c) 1) v) (i + 1)
        go true e = marks_it (sym same ∙ e)
        go false e = skips (sym same ∙ e)

  pub mark_end : (v : List ℕ) (i : ℕ) → nc ≤ i → Marking v i → SeedsMarked n nf nc k cap_list w v
  mark_end v i h m =
      let u = m.upto in
      let e : i ≡ nc = omega arith in
      record { above = m.above; seeded = λ r l. m.seeded r l ∙ ap (λ (x : ℕ). cond (seeded_by n nf nc k cap_list w x r) 1 0) e }
