-- The loop's invariant: of the first k pads those that stay stand in the first `at` places.
use Rattle.parts.proofs.Copies.{Filled}
use Rattle.parts.proofs.keep.keep_pads.Given as goal

abbrev pub invariant-loop-k : goal.invariant-loop-k
invariant-loop-k l = Filled l.stays l.row l.initial.out l.at l.k l.out
