-- The four outputs of candidates (document 01, behind the table of refusals): the four results of module 5 as 64-bit words, and what each output is for. Assumes nothing.
--   candidate_words, list_words            their words
--   candidate_lengths, candidate_outputs   the lengths of four results, and the four outputs that are for them
use Rattle.std.specs.Prelude.{ℕ, length}
use mathlib.Core.List.{List, [], ◌∷◌, ◌++◌, map, flat_map}
use Rattle.std.specs.Float.{binary64}
use Rattle.std.specs.Float.Ieee.{to_bits}
use Rattle.refusals.specs.Answers.{Output, output}
use Rattle.box_faces.specs.Faces.{face_bits}
use Rattle.candidate_pool.specs.OpenEdges.{open_edge_words}
use Rattle.candidate_pool.specs.Pool.{Candidate}
use Rattle.candidate_constraints.specs.Constraints.{constraint_words}
use Rattle.candidate_surface.specs.Candidates.{Candidates}

-- "a candidate is its point's bits, mesh vertex + 1 or 0, faces (bit f for face f)"
unfoldable pub candidate_words : List Candidate → List ℕ
candidate_words l =
    flat_map (λ c. to_bits binary64 c.point.x ∷ to_bits binary64 c.point.y ∷ to_bits binary64 c.point.z ∷ c.mesh ∷ face_bits c.on ∷ []) l

-- "six counts, then the numbers"
unfoldable pub list_words : List (List ℕ) → List ℕ
list_words ls = map length ls ++ flat_map (λ l. l) ls

-- the lengths of the four results
abbrev pub candidate_lengths : Candidates → List ℕ
candidate_lengths r = length (candidate_words r.all) ∷ length (list_words r.lists) ∷ length (constraint_words r.constraints) ∷ length (open_edge_words r.edges) ∷ []

-- "candidates, face lists, constraints, open edges", from c, l, k and e to c', l', k' and e'
abbrev pub candidate_outputs : Candidates → List ℕ → List ℕ → List ℕ → List ℕ → List ℕ → List ℕ → List ℕ → List ℕ → List Output
candidate_outputs r c c' l l' k k' e e' =
    output (candidate_words r.all) c c' ∷ output (list_words r.lists) l l' ∷ output (constraint_words r.constraints) k k' ∷ output (open_edge_words r.edges) e e' ∷ []
