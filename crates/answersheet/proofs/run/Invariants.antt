use Rattle.sheet.specs.Machine.{answers}
use Rattle.answersheet.specs.Sent.{due, Reads}
use Rattle.answersheet.proofs.run.Given as goal

abbrev pub invariant-loop : goal.invariant-loop
invariant-loop g l = Reads (g.R.Read.remaining l.initial.input) (g.R.Read.remaining l.input) g.W.Write.contents l.initial.desk.output l.desk.output answers (due l.desk)
