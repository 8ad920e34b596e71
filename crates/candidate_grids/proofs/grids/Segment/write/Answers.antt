use Rattle.root.proofs.Patterns.{no_nan}
use Rattle.candidate_grids.proofs.Segmenting.{segment_put}
use Rattle.candidate_grids.proofs.grids.Segment.write.Goals as goal

pub float_to_bits-w : goal.float_to_bits-w
float_to_bits-w c = no_nan _ c.requires.1.au

pub float_to_bits-w-2 : goal.float_to_bits-w-2
float_to_bits-w-2 c = no_nan _ c.requires.1.av

pub float_to_bits-w-3 : goal.float_to_bits-w-3
float_to_bits-w-3 c = no_nan _ c.requires.1.bu

pub float_to_bits-w-4 : goal.float_to_bits-w-4
float_to_bits-w-4 c = no_nan _ c.requires.1.bv

pub float_to_bits-w-5 : goal.float_to_bits-w-5
float_to_bits-w-5 c = no_nan _ c.requires.1.bound_in

pub returns : goal.returns
returns c =
    let side = c.struct_known-1.given.0 in
    segment_put _ _ _ _ _ c.requires.0 side.0.0 side.0.1.0 side.1.0.0 side.1.0.1.0 c.struct_known-1.given.1.0
