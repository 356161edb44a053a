use Rattle.std.proofs.Common.{w32}
use Rattle.std.proofs.lemmas.Int.{to_z-of_z}
use Rattle.jumper.proofs.Checks.{passed_on}
use Rattle.fit.proofs.Leasts.{least_refused}
use Rattle.fit.proofs.least.least_at.Goals as goal

pub returns-in_err-check : goal.returns-in_err-check
returns-in_err-check c = rw (passed_on _ c.from_residual.ensures.1) (least_refused _ _ _ _ (rw (to_z-of_z w32 c.args.d c.ranges.d) at c.in_err-check.ensures.err))
