-- What `group_edges` asks of the words, and what it leaves in the words w' that were w; and what its steps leave. Assumes nothing.
--   keyed_edges   the k edges whose packed pairs are the keys of k records at the front
--   GroupRoom    their ends are below m; and there is room
--   Grouped      the edges by components stand in the words, then of each component its two words; c is how many components there are
--   PairsPut, ComponentsPut   the steps
--   turns_of      the edge whose number a record holds has two ends, each of degree two
--   run_words     of a run how many records it has, and 1 if all of them pass, else 0
use Rattle.std.specs.Prelude.{ℕ, ◌+◌, ◌*◌, ◌/◌, ◌≤◌, ◌<◌, Bool, cond, not, ◌&&◌, ◌≡◌, eqb, length, get_or, take}
use mathlib.Core.List.{List, [], ◌∷◌, map, flat_map}
use Rattle.lists.specs.Lists.{every, up_to}
use Rattle.lists.specs.Regions.{view}
use Rattle.words.specs.Packed.{pair_first, pair_second}
use Rattle.records.specs.Buffer.{records_at}
use Rattle.records.specs.Runs.{runs}
use Rattle.edges.specs.Edges.{pair_words}
use Rattle.boundary_groups.specs.Groups.{nth_edge, groups, component_words}

abbrev pub edge_in : List ℕ → ℕ → ℕ × ℕ
edge_in w i = (pair_first (get_or w (2 * i) 0), pair_second (get_or w (2 * i) 0))

unfoldable pub keyed_edges : List ℕ → ℕ → List (ℕ × ℕ)
keyed_edges w k = map (edge_in w) (up_to k)

abbrev pub grouped : List (ℕ × ℕ) → List (List (ℕ × ℕ))
grouped es = map (map (nth_edge es)) (groups es)

pub record GroupRoom (w : List ℕ) (k n m at : ℕ) : Type 0 where
  pub few : k ≤ n
  pub front : 4 * n ≤ at
  pub room : at + 8 * n + 2 * m ≤ length w
  pub first_low : (i : ℕ) → i < k → (edge_in w i).0 < m
  pub second_low : (i : ℕ) → i < k → (edge_in w i).1 < m

pub record Grouped (es : List (ℕ × ℕ)) (w w' : List ℕ) (k n m at c : ℕ) : Type 0 where
  pub long : length w' ≡ length w
  pub count : c ≡ length (groups es)
  pub few : c ≤ k
  pub edges : view w' (at + 4 * n + 2 * m) (2 * k) ≡ pair_words (flat_map (λ g. g) (grouped es))
  pub components : view w' (at + 6 * n + 2 * m) (2 * c) ≡ component_words (grouped es)
  pub between : (x : ℕ) → 4 * n ≤ x → x < at → get_or w' x 0 ≡ get_or w x 0

-- ---- the steps

abbrev pub pair_at : List ℕ → ℕ → ℕ × ℕ
pair_at w i = (get_or w (2 * i) 0, get_or w (2 * i + 1) 0)

-- k pairs of words stand one behind the other
pub record PairsPut (f : ℕ → ℕ × ℕ) (w : List ℕ) (k : ℕ) : Type 0 where
  pub first : (i : ℕ) → i < k → get_or w (2 * i) 0 ≡ (f i).0
  pub second : (i : ℕ) → i < k → get_or w (2 * i + 1) 0 ≡ (f i).1

abbrev pub turns : List ℕ → ℕ × ℕ → Bool
turns degrees e = not (eqb e.0 e.1) && (eqb (get_or degrees e.0 0) 2 && eqb (get_or degrees e.1 0) 2)

unfoldable pub turns_of : List ℕ → List ℕ → ℕ × ℕ → Bool
turns_of ends degrees r = turns degrees (pair_at ends r.1)

unfoldable pub run_words : (ℕ × ℕ → Bool) → List (ℕ × ℕ) → List ℕ
run_words test run = length run ∷ cond (every test run) 1 0 ∷ []

pub record ComponentsPut (ends degrees records w : List ℕ) (c : ℕ) : Type 0 where
  pub few : c ≤ length records / 2
  pub words : take (2 * c) w ≡ flat_map (run_words (turns_of ends degrees)) (runs (records_at records 0 (length records / 2)))
