-- Runs: records with one key that stand next to each other. In sorted records those are all that have the key. Assumes nothing.
--   runs l            the records of l in runs: the longest parts whose records have one key
--   first_key run      the key of a run
--   Run m at n i e    of the n records at a place those from i on begin with a run that ends before e: by the keys, and as lists
--   FirstOf m at i k  record k is the first with the key of record i
--   PayloadsPut       m' is m with the word x at `to` + the payload of each record from i up to e
use Rattle.std.specs.Prelude.{ℕ, ◌+◌, ◌*◌, ◌-◌, ◌≤◌, ◌<◌, cond, List, [], ◌∷◌, ◌≡◌, eqb, length, get_or}
use Rattle.records.specs.Buffer.{records_at, key_in, payload_in}

-- a record in front of runs: of the first if that has its key, else a run by itself
unfoldable pub join_run : ℕ × ℕ → List (List (ℕ × ℕ)) → List (List (ℕ × ℕ))
join_run r [] = (r ∷ []) ∷ []
join_run r ([] ∷ rest) = (r ∷ []) ∷ rest
join_run r ((q ∷ run) ∷ rest) = cond (eqb r.0 q.0) ((r ∷ q ∷ run) ∷ rest) ((r ∷ []) ∷ (q ∷ run) ∷ rest)

unfoldable pub runs : List (ℕ × ℕ) → List (List (ℕ × ℕ))
runs [] = []
runs (r ∷ l) = join_run r (runs l)

abbrev pub first_key : List (ℕ × ℕ) → ℕ
first_key [] = 0
first_key (r ∷ run) = r.0

pub record Run (m : List ℕ) (at n i e : ℕ) : Type 0 where
  pub more : i < e
  pub within : e ≤ n
  pub same : (j : ℕ) → i ≤ j → j < e → key_in m at j ≡ key_in m at i
  pub next : e < n → key_in m at e ≡ key_in m at i → ⊥
  pub cut : runs (records_at m (at + 2 * i) (n - i)) ≡ records_at m (at + 2 * i) (e - i) ∷ runs (records_at m (at + 2 * e) (n - e))

pub record FirstOf (m : List ℕ) (at i k : ℕ) : Type 0 where
  pub low : k ≤ i
  pub same : key_in m at k ≡ key_in m at i
  pub none : (j : ℕ) → j < k → key_in m at j ≡ key_in m at i → ⊥

pub record PayloadsPut (m m' : List ℕ) (at to i e x : ℕ) : Type 0 where
  pub long : length m' ≡ length m
  pub put : (j : ℕ) → i ≤ j → j < e → get_or m' (to + payload_in m at j) 0 ≡ x
  pub rest : (y : ℕ) → ((j : ℕ) → i ≤ j → j < e → y ≡ to + payload_in m at j → ⊥) → get_or m' y 0 ≡ get_or m y 0
