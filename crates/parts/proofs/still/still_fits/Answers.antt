use Rattle.std.proofs.Common.{w32}
use Rattle.std.proofs.lemmas.Int.{to_z-of_z}
use Rattle.jumper.proofs.Checks.{passed_on}
use Rattle.parts.proofs.Answers.{asked_part, still_refused, still_found}
use Rattle.parts.proofs.still.still_fits.Goals as goal

pub returns-in_err-check : goal.returns-in_err-check
returns-in_err-check c =
    let e = to_z-of_z w32 c.args.d c.ranges.d in
    rw (passed_on _ c.from_residual.ensures.1) (still_refused _ _ _ _ _ _ (rw e at c.in_err-check.ensures.err))

pub returns : goal.returns
returns c =
    let e = rw (to_z-of_z w32 c.args.d c.ranges.d) at c.in_ok-check.ensures.ok in
    still_found _ _ _ _ _ (asked_part _ _ _ _ _ c.in_ok-check.field-0 e) _ (rw (e.0, e.1, e.2, e.3, e.4) at c.fit_part.ensures)
