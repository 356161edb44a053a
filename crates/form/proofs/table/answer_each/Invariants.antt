use Rattle.form.proofs.Tables.{Swept}
use Rattle.form.proofs.table.answer_each.Given as goal

abbrev pub invariant-loop-line : goal.invariant-loop-line
invariant-loop-line l = Swept l.initial.table l.pool_a l.pool_b l.line-index l.table
