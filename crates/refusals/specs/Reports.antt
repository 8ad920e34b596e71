-- A reply as plain numbers (document 01, "a definition gives this paper's number and values"): what a caller in C is answered. Assumes nothing.
--   Reported   the reply's number is returned, and its values stand in four words, in front of zeros
use Rattle.std.specs.Prelude.{ℕ, ◌≡◌, List, ◌++◌, get_or, drop, take, replicate}

pub record Reported (reply : List ℕ) (result : ℕ) (values : List ℕ) : Type 0 where
  pub number : result ≡ get_or reply 0 0
  pub words : values ≡ take 4 (drop 1 reply ++ replicate 4 0)
