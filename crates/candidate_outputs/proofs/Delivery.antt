-- Laws of test 12 over the four outputs. Assumes nothing.
--   short_candidates, short_lists, short_constraints, short_edges, done   test 12, and the four results written
--   nothing                    "all four lengths 0"
use Prim.Native.Nat.{ℕ, ◌+◌, ◌*◌, ◌≤◌, ◌<◌}
use native.Mathlib.Omega.{arith}
use mathlib.Core.List.{List, [], ◌∷◌, flat_map}
use mathlib.Core.Path.{◌≡◌, refl, sym, ap, subst, ◌∙◌}
use lib.ListN.{length, get_or}
use lib.Seq.{sets}
use Rattle.lists.specs.Regions.{view}
use Rattle.words.proofs.Overlay.{sets_overlay}
use Rattle.refusals.specs.declared.refusal.Refusal.TheVariants.{NoRoom}
use Rattle.std.specs.Prelude.{Ok, Err}
use Rattle.refusals.specs.Refusals.{documented_reply}
use Rattle.refusals.specs.Answers.{Output, output, Answer}
use Rattle.refusals.proofs.Answers.{short, done as all_done}
use Rattle.candidate_pool.specs.OpenEdges.{open_edge_words}
use Rattle.candidate_pool.specs.Standing.{count_at}
use Rattle.candidate_constraints.specs.Constraints.{constraint_words}
use Rattle.candidate_surface.specs.Candidates.{Candidates, no_candidates}
use Rattle.candidate_outputs.specs.Outputs.{candidate_words, list_words, candidate_outputs}
use Rattle.candidate_outputs.specs.Written.{candidates_standing, Readable}
use Rattle.candidate_outputs.proofs.Lengths.{candidates_long, all_lists_long, constraints_long, edges_long}

-- ---- test 12: of the four results that stand in the room, with `numbers` numbers in the face lists

module _ (n nf k listed total : ℕ) (w : List ℕ) (R : Readable n nf k listed total w) (numbers : ℕ)
    (en : numbers ≡ get_or w 0 0 + (get_or w 1 0 + (get_or w 2 0 + (get_or w 3 0 + (get_or w 4 0 + get_or w 5 0))))) (c l t e : List ℕ) where
  abbrev r : Candidates
  r = candidates_standing n nf k total w

  abbrev first : List ℕ → Output
  first c' = output (candidate_words r.all) c c'

  abbrev second : List ℕ → Output
  second l' = output (list_words r.lists) l l'

  abbrev third : List ℕ → Output
  third t' = output (constraint_words r.constraints) t t'

  abbrev fourth : List ℕ → Output
  fourth e' = output (open_edge_words r.edges) e e'

  x_long : 5 * count_at w ≡ length (candidate_words r.all)
  x_long = candidates_long n nf k listed total w R

  y_long : 6 + numbers ≡ length (list_words r.lists)
  y_long = all_lists_long n nf k listed total w R numbers en

  z_long : 3 * total ≡ length (constraint_words r.constraints)
  z_long = constraints_long n nf k listed total w R

  u_long : 3 * listed ≡ length (open_edge_words r.edges)
  u_long = edges_long n nf k listed total w R

  abbrev Short : ℕ → Type 0
  Short m = Answer [] (candidate_outputs r c c l l t t e e) (documented_reply (Err (NoRoom m)))

  pub short_candidates : length c < 5 * count_at w → Short (5 * count_at w)
  short_candidates h = short [] (first c) (second l ∷ third t ∷ fourth e ∷ []) (5 * count_at w) x_long tt h (refl, (refl, (refl, (refl, tt))))

  module _ (hx : 5 * count_at w ≤ length c) where
    fit_one : length (candidate_words r.all) ≤ length c
    fit_one = let q = x_long in omega (arith, q, hx)

    pub short_lists : length l < 6 + numbers → Short (6 + numbers)
    short_lists h = short (first c ∷ []) (second l) (third t ∷ fourth e ∷ []) (6 + numbers) y_long (fit_one, tt) h (refl, (refl, (refl, (refl, tt))))

    module _ (hy : 6 + numbers ≤ length l) where
      fit_two : length (list_words r.lists) ≤ length l
      fit_two = let q = y_long in omega (arith, q, hy)

      pub short_constraints : length t < 3 * total → Short (3 * total)
      short_constraints h = short (first c ∷ second l ∷ []) (third t) (fourth e ∷ []) (3 * total) z_long (fit_one, (fit_two, tt)) h (refl, (refl, (refl, (refl, tt))))

      module _ (hz : 3 * total ≤ length t) where
        fit_three : length (constraint_words r.constraints) ≤ length t
        fit_three = let q = z_long in omega (arith, q, hz)

        pub short_edges : length e < 3 * listed → Short (3 * listed)
        short_edges h = short (first c ∷ second l ∷ third t ∷ []) (fourth e) [] (3 * listed) u_long (fit_one, (fit_two, (fit_three, tt))) h (refl, (refl, (refl, (refl, tt))))

        pub done : 3 * listed ≤ length e → (c' l' t' e' : List ℕ) → c' ≡ sets c 0 (view w 8 (5 * count_at w)) → l' ≡ sets l 0 (list_words r.lists)
            → t' ≡ sets t 0 (constraint_words r.constraints) → e' ≡ sets e 0 (open_edge_words r.edges)
            → Answer [] (candidate_outputs r c c' l l' t t' e e') (documented_reply (Ok ((5 * count_at w) ∷ (6 + numbers) ∷ (3 * total) ∷ (3 * listed) ∷ [])))
        done hu c' l' t' e' hc hl ht he =
            let fit_four : length (open_edge_words r.edges) ≤ length e = let q = u_long in omega (arith, q, hu) in
            all_done (first c' ∷ second l' ∷ third t' ∷ fourth e' ∷ []) ((5 * count_at w) ∷ (6 + numbers) ∷ (3 * total) ∷ (3 * listed) ∷ [])
            (λ i. x_long i ∷ y_long i ∷ z_long i ∷ u_long i ∷ [])
            (fit_one, (fit_two, (fit_three, (fit_four, tt)))) (
              hc ∙ ap (sets c 0) (sym R.words) ∙ sets_overlay (candidate_words r.all) c fit_one,
              (
                hl ∙ sets_overlay (list_words r.lists) l fit_two,
                (ht ∙ sets_overlay (constraint_words r.constraints) t fit_three, (he ∙ sets_overlay (open_edge_words r.edges) e fit_four, tt)),
              ),
            )

-- "with all four lengths 0"
pub nothing : (r : Candidates) (c l k e : List ℕ) → r ≡ no_candidates → Answer [] (candidate_outputs r c c l l k k e e) (documented_reply (Ok (0 ∷ 0 ∷ 0 ∷ 0 ∷ [])))
unfolding candidate_words list_words flat_map
nothing r c l k e h =
    subst (λ (r : Candidates). Answer [] (candidate_outputs r c c l l k k e e) (documented_reply (Ok (0 ∷ 0 ∷ 0 ∷ 0 ∷ [])))) (sym h)
    (all_done (output [] c c ∷ output [] l l ∷ output [] k k ∷ output [] e e ∷ []) (0 ∷ 0 ∷ 0 ∷ 0 ∷ []) refl (omega arith, (omega arith, (omega arith, (omega arith, tt))))
    (refl, (refl, (refl, (refl, tt)))))
