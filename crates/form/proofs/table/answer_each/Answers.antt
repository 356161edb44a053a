use Rattle.std.proofs.Common.{sym, arith}
use Rattle.form.proofs.Tables.{answer_alone, swept_more, swept_all}
use Rattle.form.proofs.table.answer_each.Goals as goal

pub loop-line-preserved : goal.loop-line-preserved
loop-line-preserved c = rw (sym (answer_alone c.answered.ensures)) (swept_more c.loop-line.invariant c.answered.result (omega arith) c.answered.ensures)

pub returns : goal.returns
returns c = swept_all c.loop-line.invariant (omega arith)
