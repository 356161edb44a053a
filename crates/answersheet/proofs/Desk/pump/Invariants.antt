use Rattle.std.proofs.Common.{◌++◌}
use Rattle.answersheet.specs.Sent.{due, Sends}
use Rattle.answersheet.proofs.Desk.pump.Given as goal

abbrev pub invariant-loop : goal.invariant-loop
invariant-loop g l = Sends g.W.Write.contents l.initial.self.output l.self.output (λ rest. due l.initial.self (l.piece ++ rest)) (λ rest. due l.self (l.rest ++ rest))
