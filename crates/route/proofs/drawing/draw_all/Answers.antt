use Rattle.std.proofs.Common.{w32}
use Rattle.std.proofs.lemmas.Int.{to_z-of_z}
use Rattle.jumper.proofs.Checks.{passed_on}
use Rattle.route.proofs.Answers.{all_early, all_short, all_misfit, all_done_lem}
use Rattle.route.proofs.drawing.draw_all.Goals as goal

pub returns-in_err-q : goal.returns-in_err-q
returns-in_err-q c = rw (passed_on _ c.from_residual.ensures.1) (all_early _ _ _ _ _ _ (rw (to_z-of_z w32 c.args.d c.ranges.d) at c.in_err-q.ensures.err))

pub returns-in_err-fits : goal.returns-in_err-fits
returns-in_err-fits c =
    let f = rw (to_z-of_z w32 c.args.d c.ranges.d) at c.in_ok-q.ensures.ok in
    rw (passed_on _ c.from_residual-in_err-fits.ensures.1) (all_misfit _ _ _ _ _ f.accepted (rw c.places.ensures at c.if-out-places.false) _ (rw c.in_err-fits.was at f.fits))

pub returns : goal.returns
returns c =
    let f = rw (to_z-of_z w32 c.args.d c.ranges.d) at c.in_ok-q.ensures.ok in
    all_done_lem _ _ _ _ _ f.accepted (rw c.places.ensures at c.if-out-places.false) _ (rw (f.same.0, f.same.1, f.same.2, f.same.3) at c.draw_wires.ensures) (rw c.in_ok-fits.was at f.fits)

pub returns-then-out-places : goal.returns-then-out-places
returns-then-out-places c =
    let f = rw (to_z-of_z w32 c.args.d c.ranges.d) at c.in_ok-q.ensures.ok in
    all_short _ _ _ _ _ f.accepted (rw c.places.ensures at c.if-out-places.true)
