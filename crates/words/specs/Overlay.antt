-- Overlay: an output after a result was written to it (document 01, "Refusals": "On success an output holds the result at its front and its old
-- contents behind"). Over any element type. Assumes nothing.
--   overlay new old   new, and then what old has beyond new's length
use Rattle.std.specs.Prelude.{List, ◌++◌, length, drop}

abbrev pub overlay {ℓ} : {A : Type ℓ} → List A → List A → List A
overlay new old = new ++ drop (length new) old
