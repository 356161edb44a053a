use Rattle.std.proofs.Common.{None, Some, sym, ◌∙◌, w32}
use Rattle.std.proofs.lemmas.Int.{to_z-of_z}
use Rattle.jumper.proofs.Checks.{passed_on}
use Rattle.fit.proofs.Misfits.{fit_refused, fit_found}
use Rattle.fit.proofs.misfit.fit.Goals as goal

pub returns-in_err-check : goal.returns-in_err-check
returns-in_err-check c = rw (passed_on _ c.from_residual.ensures.1) (fit_refused _ _ _ _ _ (rw (to_z-of_z w32 c.args.d c.ranges.d) at c.in_err-check.ensures.err))

pub returns-in-None : goal.returns-in-None
returns-in-None c = fit_found c.in_ok-check.field-0 (rw (to_z-of_z w32 c.args.d c.ranges.d) at c.in_ok-check.ensures.ok) None (sym c.in-None.is ∙ c.first_misfit.ensures)

pub returns-in-Some : goal.returns-in-Some
returns-in-Some c = fit_found c.in_ok-check.field-0 (rw (to_z-of_z w32 c.args.d c.ranges.d) at c.in_ok-check.ensures.ok) (Some c.in-Some.m) (sym c.in-Some.is ∙ c.first_misfit.ensures)
