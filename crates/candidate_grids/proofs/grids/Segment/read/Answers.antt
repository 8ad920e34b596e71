use Rattle.root.proofs.Patterns.{no_nan_pattern}
use Rattle.candidate_grids.proofs.grids.Segment.read.Goals as goal

pub float_from_bits-result : goal.float_from_bits-result
float_from_bits-result c = no_nan_pattern _ c.requires.1.au

pub float_from_bits-result-2 : goal.float_from_bits-result-2
float_from_bits-result-2 c = no_nan_pattern _ c.requires.1.av

pub float_from_bits-result-3 : goal.float_from_bits-result-3
float_from_bits-result-3 c = no_nan_pattern _ c.requires.1.bu

pub float_from_bits-result-4 : goal.float_from_bits-result-4
float_from_bits-result-4 c = no_nan_pattern _ c.requires.1.bv

pub float_from_bits-result-5 : goal.float_from_bits-result-5
float_from_bits-result-5 c = no_nan_pattern _ c.requires.1.bound_in
