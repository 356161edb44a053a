use Rattle.std.proofs.Common.{◌-◌, length}
use Rattle.fit.proofs.Leasts.{Seeking}
use Rattle.fit.proofs.least.seek_least.Given as goal

abbrev pub invariant-loop-m : goal.invariant-loop-m
invariant-loop-m l = Seeking l.q.rows.bottom.now l.q.rows.top.now l.q.offset l.s l.witness

abbrev pub decreases-loop-m : goal.decreases-loop-m
decreases-loop-m l = length l.q.rows.bottom.now - l.s
