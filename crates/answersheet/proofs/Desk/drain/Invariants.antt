use Rattle.std.proofs.Common.{◌≡◌, List, ℕ}
use Rattle.answersheet.specs.Sent.{due, to_come, Sends}
use Rattle.answersheet.proofs.Desk.drain.Given as goal

abbrev pub invariant-loop : goal.invariant-loop
invariant-loop g l = record {
  sends : Sends g.W.Write.contents l.initial.self.output l.self.output (due l.initial.self) (due l.self);
  same : (rest : List ℕ) → to_come l.self rest ≡ to_come l.initial.self rest;
}
