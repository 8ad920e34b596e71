use Rattle.hypot.proofs.Sums.{order, far_length, near_length, root_lead}
use Rattle.hypot.proofs.hypot_bits.Goals as goal

pub returns-then-d-gt26 : goal.returns-then-d-gt26
returns-then-d-gt26 c = far_length c.exponent-j.ensures.0 c.exponent-k.ensures.0 c.exponent-j.ensures.1 c.if-d-gt26.true

pub settled-requires : goal.settled-requires
settled-requires c =
    let p = c.exponent-j.ensures.0 in
    let q = c.exponent-k.ensures.0 in
    (c.exponent-j.ensures.1, c.root.ensures.few, root_lead p q (order p q c.requires.0) c.root.ensures)

pub returns : goal.returns
returns c =
    let p = c.exponent-j.ensures.0 in
    let q = c.exponent-k.ensures.0 in
    near_length p q (order p q c.requires.0) c.root.ensures c.settled.ensures
