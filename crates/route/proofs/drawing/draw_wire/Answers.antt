use Rattle.std.proofs.Common.{w32}
use Rattle.std.proofs.lemmas.Int.{to_z-of_z}
use Rattle.jumper.proofs.Checks.{passed_on}
use Rattle.route.proofs.Answers.{wire_early, wire_misfit, wire_done}
use Rattle.route.proofs.drawing.draw_wire.Goals as goal

pub returns-in_err-q : goal.returns-in_err-q
returns-in_err-q c = rw (passed_on _ c.from_residual.ensures.1) (wire_early _ _ _ _ _ _ _ (rw (to_z-of_z w32 c.args.d c.ranges.d) at c.in_err-q.ensures.err))

pub returns-in_err-fits : goal.returns-in_err-fits
returns-in_err-fits c =
    let f = rw (to_z-of_z w32 c.args.d c.ranges.d) at c.in_ok-q.ensures.ok in
    rw (passed_on _ c.from_residual-in_err-fits.ensures.1) (wire_misfit _ _ _ _ _ _ f.accepted c.if-a-wire.false c.if-out-s.false _ (rw c.in_err-fits.was at f.fits))

pub returns : goal.returns
returns c =
    let f = rw (to_z-of_z w32 c.args.d c.ranges.d) at c.in_ok-q.ensures.ok in
    wire_done _ _ _ _ _ _ f.accepted c.if-a-wire.false c.if-out-s.false _ (rw (f.same.0, f.same.1, f.same.2, f.same.3) at c.draw_columns.ensures) (rw c.in_ok-fits.was at f.fits)
