-- The invariant: the least misfit from `from` on is the least of what is left.
use Rattle.std.proofs.Common.{◌≡◌, ◌-◌, length}
use Rattle.wiring.specs.Fit.{lean_of}
use Rattle.fit.specs.Misfit.{misfit_from}
use Rattle.fit.proofs.misfit.misfit_from.Given as goal

abbrev pub invariant-loop-i : goal.invariant-loop-i
invariant-loop-i l =
    let a = l.q.rows.bottom.now in
    let x = lean_of a in
    let y = lean_of l.q.rows.top.now in
    misfit_from x y l.s l.q.offset l.from (length a - l.s - l.from) ≡ misfit_from x y l.s l.q.offset l.i (length a - l.s - l.i)
