-- An open edge as it is listed (document 01, module 5). Assumes nothing.
--   OpenEdge, open_edge   a face that both ends lie on, and the candidates of the ends, as the edge's facet side runs
--   open_edge_words        their 64-bit words, three each
use Rattle.std.specs.Prelude.{ℕ}
use mathlib.Core.List.{List, [], ◌∷◌, flat_map}

pub record OpenEdge : Type 0 where
  pub face : ℕ
  pub from : ℕ
  pub to : ℕ

abbrev pub open_edge : ℕ → ℕ → ℕ → OpenEdge
open_edge f a b = record { face = f; from = a; to = b }

abbrev pub open_edge_words : List OpenEdge → List ℕ
open_edge_words l = flat_map (λ e. e.face ∷ e.from ∷ e.to ∷ []) l
