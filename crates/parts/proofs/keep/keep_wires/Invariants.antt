-- The loop's invariant: the wires that stay of those before this round's stand in the buffer, and `place` is the place after them.
use Rattle.parts.proofs.Copies.{Held}
use Rattle.parts.proofs.keep.keep_wires.Given as goal

abbrev pub invariant-loop-pair : goal.invariant-loop-pair
invariant-loop-pair l = Held l.part.stays.now l.part.question.separation l.table l.initial.out l.place l.pair l.out
