use mathlib.Core.Path.{refl}
use mathlib.Core.Bool.{true≢false, false≢true}
use Rattle.leaf_exports.proofs.table_words.Goals as goal

-- `table_words` meets its contract. Assumes nothing.
pub returns-then-nb-eq0 : goal.returns-then-nb-eq0
returns-then-nb-eq0 c = (λ e. absurd (false≢true e), λ e. refl)

pub returns-then-nb-gt4294967296 : goal.returns-then-nb-gt4294967296
returns-then-nb-gt4294967296 c = (λ e. absurd (false≢true e), λ e. refl)

pub returns-then-nb-long : goal.returns-then-nb-long
returns-then-nb-long c = (λ e. absurd (false≢true e), λ e. refl)

pub returns-then-keys-long : goal.returns-then-keys-long
returns-then-keys-long c = (λ e. absurd (false≢true e), λ e. refl)

pub returns-then-asked-found : goal.returns-then-asked-found
returns-then-asked-found c = (λ e. absurd (false≢true e), λ e. refl)

pub returns : goal.returns
returns c = (λ e. c.answer.ensures, λ e. absurd (true≢false e))
