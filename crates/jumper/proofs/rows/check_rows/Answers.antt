use Rattle.std.proofs.Common.{sym, ◌∙◌, eq-eqb, ne_eqb, le-ltb}
use Rattle.jumper.proofs.Accepted.{row_check}
use Rattle.jumper.proofs.Checks.{passed_on}
use Rattle.jumper.proofs.rows.check_rows.Goals as goal

pub returns-in_err-fault : goal.returns-in_err-fault
returns-in_err-fault c =
    let e = sym c.fault.ensures ∙ c.in_err-fault.was in
    row_check _ _ _ (rw (passed_on _ c.from_residual.ensures.1, eq-eqb _ _ c.if-n-b.false, ne_eqb _ _ c.if-n-eq0.false, le-ltb _ _ c.if-n-gt-MAX_PAIRS.false, e))

pub returns : goal.returns
returns c =
    let e = sym c.fault.ensures ∙ c.in_ok-fault.was in
    row_check _ _ _ (rw (eq-eqb _ _ c.if-n-b.false, ne_eqb _ _ c.if-n-eq0.false, le-ltb _ _ c.if-n-gt-MAX_PAIRS.false, e) c.fault-2.ensures)
