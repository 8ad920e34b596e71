use Rattle.words.proofs.Overlay.{Writing}
use Rattle.mesh_cleanup.proofs.write_numbers.Given as goal

abbrev pub invariant-loop-i : goal.invariant-loop-i
invariant-loop-i l = Writing l.numbers l.initial.out l.out l.i
