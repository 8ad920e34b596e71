-- From the lists in the work room to the outputs. Assumes nothing.
--   part_written     a part of the room, copied to the front of an output
--   short_edges, short_components, short_irregular   12: the first output that is too short
--   written          all three fit, and were written
use Prim.Native.Nat.{ℕ, ◌+◌, ◌*◌, ◌-◌, ◌≤◌, ◌<◌}
use native.Mathlib.Omega.{arith}
use mathlib.Core.List.{List, [], ◌∷◌, flat_map}
use mathlib.Core.Path.{◌≡◌, refl, sym, ap, ◌∙◌}
use lib.ListN.{length, take, drop}
use Rattle.words.specs.Overlay.{overlay}
use Rattle.lists.specs.Regions.{view}
use Rattle.lists.proofs.Regions.{view_length}
use Rattle.geometry.specs.Triangles.{threes}
use Rattle.edges.specs.Edges.{pair_words}
use Rattle.refusals.specs.declared.refusal.Refusal.TheVariants.{NoRoom}
use Rattle.std.specs.Prelude.{Ok, Err}
use Rattle.refusals.specs.Refusals.{documented_reply}
use Rattle.refusals.specs.Answers.{output, Answer}
use Rattle.refusals.proofs.Answers.{short, done}
use Rattle.irregular_edges.specs.Irregular.{irregular_edges}
use Rattle.boundary_groups.specs.Groups.{boundary_components, component_words}
use Rattle.boundary_components.specs.Boundary.{boundary_outputs}
use Rattle.boundary_components.specs.Steps.{Ready, Listed}

pub part_written : (w out out' : List ℕ) (from n : ℕ) → out' ≡ overlay (take (from + n - from) (drop from w)) out → out' ≡ overlay (view w from n) out
part_written w out out' from n e =
    let a : from + n - from ≡ n = omega arith in
    e ∙ ap (λ (k : ℕ). overlay (take k (drop from w)) out) a

module _ (vertices : ℕ) (fs w w' : List ℕ) (k c q : ℕ) (ready : Ready vertices fs (length w)) (l : Listed vertices fs w w' k c q) where
  pub room : 13 * length fs + 2 * vertices ≤ length w'
  room = omega (arith, ready.room, ready.whole, l.long)

  abbrev edges_out : List ℕ
  edges_out = pair_words (flat_map (λ g. g) (boundary_components (threes fs)))

  abbrev components_out : List ℕ
  components_out = component_words (boundary_components (threes fs))

  abbrev irregular_out : List ℕ
  irregular_out = pair_words (irregular_edges (threes fs))

  edges_long : 2 * k ≡ length edges_out
  edges_long = sym (view_length w' (9 * length fs + 2 * vertices) (2 * k) (omega (arith, room, l.few_open))) ∙ ap length l.edges

  components_long : 2 * c ≡ length components_out
  components_long = sym (view_length w' (11 * length fs + 2 * vertices) (2 * c) (omega (arith, room, l.few_open, l.few_components))) ∙ ap length l.groups

  irregular_long : 2 * q ≡ length irregular_out
  irregular_long = sym (view_length w' (4 * length fs) (2 * q) (omega (arith, room, l.few_irregular))) ∙ ap length l.irregulars

  module _ (e p i : List ℕ) where
    pub short_edges : length e < 2 * k → Answer [] (boundary_outputs (threes fs) e e p p i i) (documented_reply (Err (NoRoom (2 * k))))
    short_edges h = short [] (output edges_out e e) (output components_out p p ∷ output irregular_out i i ∷ []) (2 * k) edges_long tt h (refl, (refl, (refl, tt)))

    module _ (fe : 2 * k ≤ length e) where
      pub short_components : length p < 2 * c → Answer [] (boundary_outputs (threes fs) e e p p i i) (documented_reply (Err (NoRoom (2 * c))))
      short_components h =
          short (output edges_out e e ∷ []) (output components_out p p) (output irregular_out i i ∷ []) (2 * c) components_long (omega (arith, fe, edges_long), tt) h
          (refl, (refl, (refl, tt)))

      module _ (fp : 2 * c ≤ length p) where
        pub short_irregular : length i < 2 * q → Answer [] (boundary_outputs (threes fs) e e p p i i) (documented_reply (Err (NoRoom (2 * q))))
        short_irregular h =
            short (output edges_out e e ∷ output components_out p p ∷ []) (output irregular_out i i) [] (2 * q) irregular_long
            (omega (arith, fe, edges_long), (omega (arith, fp, components_long), tt)) h (refl, (refl, (refl, tt)))

        pub written : (e' p' i' : List ℕ) → 2 * q ≤ length i
            → e' ≡ overlay (view w' (9 * length fs + 2 * vertices) (2 * k)) e → p' ≡ overlay (view w' (11 * length fs + 2 * vertices) (2 * c)) p
            → i' ≡ overlay (view w' (4 * length fs) (2 * q)) i
            → Answer [] (boundary_outputs (threes fs) e e' p p' i i') (documented_reply (Ok (2 * k ∷ 2 * c ∷ 2 * q ∷ [])))
        written e' p' i' fi a b d =
            done (output edges_out e e' ∷ output components_out p p' ∷ output irregular_out i i' ∷ []) (2 * k ∷ 2 * c ∷ 2 * q ∷ [])
            (λ t. edges_long t ∷ components_long t ∷ irregular_long t ∷ [])
            (omega (arith, fe, edges_long), (omega (arith, fp, components_long), (omega (arith, fi, irregular_long), tt)))
            (a ∙ ap (λ (x : List ℕ). overlay x e) l.edges, (b ∙ ap (λ (x : List ℕ). overlay x p) l.groups, (d ∙ ap (λ (x : List ℕ). overlay x i) l.irregulars, tt)))
